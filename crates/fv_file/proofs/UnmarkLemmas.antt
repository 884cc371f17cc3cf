-- There is one way to remove the marks of all fixed files. The steps:
-- 1. The marks are removed one after another, and cells tile the body up to each place (`one_less`, `one_further`). A
--    fault after the mark at a place was removed is the first fault of the body (`stopped`).
-- 2. There is one way to remove all marks (`one_unmarked`).
-- 3. If all marks can be removed, a cell begins at each place after the mark there was removed (`unmarked_cell`).
use Rattle.std.proofs.Common.{◌≡◌, ◌≤◌, ◌<◌, ℕ, ◌+◌, ◌-◌, ◌%◌, [], ◌∷◌, ◌++◌, ◌≢◌, ◌⊎◌, if◌then◌else◌}
use Rattle.fv_base.proofs.Laws.{List, length, take, drop, refl, sym, ap, ◌∙◌, arith, false, inl, inr, slice_index, slice_set, Ok, Err, Result}
use Rattle.fv_base.proofs.Laws.{ltb-false, length-take-le, take-append-drop, take-set-le, First, first_only, outer_fault, common_steps, AllAre, erased_byte}
use Rattle.fv_base.specs.declared.fault.Fault.{Fault}
use Rattle.fv_base.specs.declared.flash.FileSystem.{FileSystem}
use Rattle.fv_base.specs.declared.flash.Polarity.{Polarity}
use Rattle.fv_file.specs.Words.{CellForm, is_free, IsCell, Tiles, cell_len, IsFirstCellFault, unmarked, Unmarks}
use Rattle.fv_file.specs.inner.CellVerdicts.{cell_verdict, is_held}
use Rattle.fv_file.proofs.MarkedFileLemmas.{fixed_there, there_held, cell_moves, not_fixed_again, length-unmarked, drop-unmarked}
use Rattle.fv_file.proofs.MarkedFileLemmas.{used_without}
use Rattle.fv_file.proofs.BodyLemmas.{TiledUpto, upto_begins, stands_here, one_on, first_here, none_after, one_cell_fault}
use Rattle.fv_file.proofs.CellFoundLemmas.{CellStandsAt}
use Rattle.fv_base.specs.declared.fault.FaultKind.TheVariants as kinds

-- ---- 1. one after another

-- if a cell is read, there are at least the 24 bytes of a header
pub cell_long : (s : FileSystem) (p : Polarity) (at : ℕ) (r : List ℕ) (c : CellForm) → cell_verdict s p at r ≡ Ok c → 24 ≤ length r
cell_long s p at r c is = grind (arith, common_steps, ltb-false)

-- a fault is Fixed, or it is not
pub fixed_known : (f : Fault) → (f.kind ≡ kinds.Fixed) ⊎ (f.kind ≢ kinds.Fixed)
fixed_known f = grind (arith, common_steps)

-- a verdict that is not a fault is a cell
ok_there : (x : Result CellForm Fault) → ((f : Fault) → x ≡ Err f → ⊥) → (c : CellForm) × (x ≡ Ok c)
ok_there (Ok c) none = (c, refl)
ok_there (Err f) none = absurd (none f refl)

-- removing the mark at a place does not change the bytes before this place
pub front_unmarked : (p : ℕ) (b : List ℕ) → take p (unmarked p b) ≡ take p b
front_unmarked p b = take-set-le p (slice_set b (p + 16) ((slice_index b (p + 16) + 4) % 256)) (p + 19) (slice_index b (p + 19) - 4) (omega arith)
    ∙ take-set-le p b (p + 16) ((slice_index b (p + 16) + 4) % 256) (omega arith)

module _ (s : FileSystem) (p : Polarity) (first : ℕ) where
  -- if the first fault of the body is Fixed, one more mark is removed, at the place of this fault
  pub marks_more : (ps : List ℕ) (q : ℕ) (b o : List ℕ) → Unmarks s p first ps b o
      → IsFirstCellFault s p first o (outer_fault kinds.Fixed (first + q + 19)) → Unmarks s p first (ps ++ q ∷ []) b (unmarked q o)
  marks_more [] q b o same here = rw (← same) (here, refl)
  marks_more (r ∷ rs) q b o marks here = (marks.0, marks_more rs q (unmarked r b) o marks.1 here)

  -- the marks up to a place are removed, and cells tile the body up to there
  pub record Unmarked (old body : List ℕ) (at : ℕ) : Type 0 where
    pub places : List ℕ
    pub marks : Unmarks s p first places old body
    pub same_length : length body ≡ length old
    pub cells : List CellForm
    pub upto : TiledUpto s p first body cells at

  -- at the start, no mark is removed
  pub unmarked_begins : (body : List ℕ) → Unmarked body body 0
  unmarked_begins body = record { places = []; marks = refl; same_length = refl; cells = []; upto = upto_begins s p first body }

  -- the place is before the end of the body, and not all bytes from there on are erased
  abbrev pub Used : List ℕ → ℕ → Type 0
  Used body at = (at < length body) × (AllAre (erased_byte p) (drop at body) → ⊥)

  -- the body is unchanged, or the file at the place is fixed, and its mark is removed
  abbrev pub MarkStep : List ℕ → List ℕ → ℕ → Type 0
  MarkStep body new at =
      (new ≡ body)
      ⊎ ((cell_verdict s p (first + at) (drop at body) ≡ Err (outer_fault kinds.Fixed (first + at + 19))) × (new ≡ unmarked at body))

  -- after the mark at the place was removed, the marks up to the place are removed, and cells tile the body up to there
  pub one_less : (old body new : List ℕ) (at : ℕ) → Unmarked old body at → Used body at → MarkStep body new at → Unmarked old new at
  one_less old body new at k used (inl same) = rw same k
  one_less old body new at k used (inr (is, less)) = rw less (record {
    places = k.places ++ at ∷ [];
    marks = marks_more k.places at old body k.marks (first_here s p first body k.cells at k.upto _ used is);
    same_length = length-unmarked at body ∙ k.same_length;
    cells = k.cells;
    upto = record {
      tiled = rw front_unmarked k.upto.tiled;
      none_free = k.upto.none_free;
      multiple = k.upto.multiple;
      inside = rw length-unmarked k.upto.inside;
    };
  })

  -- the fault at the place, after its mark was removed, is the first fault of the body
  pub stopped : (old body new : List ℕ) (at : ℕ) (f : Fault) → Unmarked old body at → Used body at → MarkStep body new at
      → cell_verdict s p (first + at) (drop at new) ≡ Err f → IsFirstCellFault s p first new f
  stopped old body new at f k used step is =
      let less = one_less old body new at k used step in
      first_here s p first new less.cells at less.upto f (used_still step) is
    where
      used_still : MarkStep body new at → Used new at
      used_still (inl same) = rw same used
      used_still (inr (fixed, less)) =
          let there = fixed_there s p (first + at) (drop at body) _ fixed refl in
          rw (less, length-unmarked, drop-unmarked) (used.0, used_without s p (first + at) (drop at body) _ there)

  -- removing marks does not change the number of bytes
  pub length-unmarks : (ps : List ℕ) (b o : List ℕ) → Unmarks s p first ps b o → length o ≡ length b
  length-unmarks [] b o same = ap length same
  length-unmarks (q ∷ qs) b o marks = length-unmarks qs (unmarked q b) o marks.1 ∙ length-unmarked q b

  -- ---- 2. in one way

  -- the first fault of the body, if it has one, is not Fixed
  abbrev pub NoneFixed : List ℕ → Type 0
  NoneFixed b = (f : Fault) → IsFirstCellFault s p first b f → f.kind ≢ kinds.Fixed

  -- a body that cells tile has no first fault, so no first fault of it is Fixed
  pub tiled_unfixed : (b : List ℕ) (cs : List CellForm) → Tiles s p first cs b → NoneFixed b
  tiled_unfixed b cs tiles f here kind = none_after First s p first b f cs here tiles

  -- a body has only one first fault: if it is not Fixed, no first fault of the body is Fixed
  pub fault_unfixed : (b : List ℕ) (f : Fault) → IsFirstCellFault s p first b f → f.kind ≢ kinds.Fixed → NoneFixed b
  fault_unfixed b f here other g there kind = other (ap (λ (x : Fault). x.kind) (one_cell_fault s p first b f g here there) ∙ kind)

  -- only one list of bytes is the body from which all marks were removed
  pub one_unmarked : (ps qs : List ℕ) (b o x : List ℕ) → Unmarks s p first ps b o → NoneFixed o → Unmarks s p first qs b x → NoneFixed x
      → x ≡ o
  one_unmarked [] [] b o x same end other end_x = other ∙ sym same
  one_unmarked [] (r ∷ rs) b o x same end other end_x = absurd (end (outer_fault kinds.Fixed (first + r + 19)) (rw same other.0) refl)
  one_unmarked (q ∷ qs) [] b o x marks end same end_x = absurd (end_x (outer_fault kinds.Fixed (first + q + 19)) (rw same marks.0) refl)
  one_unmarked (q ∷ qs) (r ∷ rs) b o x marks end other end_x =
      let same : r ≡ q = omega (arith, ap (λ (f : Fault). f.place.offset) (one_cell_fault s p first b _ _ other.0 marks.0)) in
      one_unmarked qs rs (unmarked q b) o x marks.1 end (rw same at other.1) end_x

  -- ---- 3. a body whose marks can be removed

  -- some cells tile the body without its marks
  abbrev pub Accepts : List ℕ → Type 0
  Accepts b = (places : List ℕ) × (o : List ℕ) × Unmarks s p first places b o × ((cells : List CellForm) × Tiles s p first cells o)

  -- a fault at a place is Fixed, both before the mark there was removed and after that
  no_other : (old body new : List ℕ) (at : ℕ) → Accepts old → Unmarked old body at → Used body at → MarkStep body new at
      → (f : Fault) → cell_verdict s p (first + at) (drop at new) ≡ Err f → f.kind ≢ kinds.Fixed → ⊥
  no_other old body new at (places, o, marks, (cells, tiles)) k used step f is other =
      let less = one_less old body new at k used step in
      let here = stopped old body new at f k used step is in
      let same : o ≡ new =
      one_unmarked less.places places old new o less.marks (fault_unfixed new f here other) marks (tiled_unfixed o cells tiles) in
      none_after First s p first new f cells here (rw same at tiles)

  -- a header begins at each place, and after the mark of a held file there was removed, a cell begins there
  pub unmarked_cell : (old body new : List ℕ) (at : ℕ) → Accepts old → Unmarked old body at → Used body at
      → new ≡ (if is_held p (drop at body) then unmarked at body else body)
      → (24 ≤ length (drop at body)) × Unmarked old new at × ((c : CellForm) × (cell_verdict s p (first + at) (drop at new) ≡ Ok c))
  unmarked_cell old body new at ok k used step = go (cell_verdict s p (first + at) (drop at body)) refl where
    go : (x : Result CellForm Fault) → cell_verdict s p (first + at) (drop at body) ≡ x
        → (24 ≤ length (drop at body)) × Unmarked old new at × ((c : CellForm) × (cell_verdict s p (first + at) (drop at new) ≡ Ok c))
    go (Ok c) is =
        let same : new ≡ body = rw (cell_moves s p _ _ c is) at step in (cell_long s p _ _ c is, rw same k, (c, rw same is))
    go (Err f) is =
        let there = fixed_there s p _ _ f is (first_only (fixed_known f) (no_other old body body at ok k used (inl refl) f is)) in
        let less : new ≡ unmarked at body = rw (there_held s p _ _ f there) at step in
        let mark : MarkStep body new at = inr (is ∙ ap Err there.file.fault, less) in (
          there.long,
          one_less old body new at k used mark,
          ok_there _ (λ g fails.
              no_other old body new at ok k used mark g fails (not_fixed_again s p _ _ f there g (rw (less, drop-unmarked) at fails))),
        )

  -- after the cell at the place, the marks up to the next place are removed
  pub one_further : (old body : List ℕ) (at len : ℕ) (c : CellForm) → Unmarked old body at → CellStandsAt s p (first + at) c (drop at body)
      → len ≡ cell_len c → Unmarked old body (at + len) × (0 < len) × (at + len ≤ length body)
  one_further old body at len c k stands l =
      let upto = one_on s p first body k.cells at k.upto c len stands l in (
        record { places = k.places; marks = k.marks; same_length = k.same_length; cells = k.cells ++ c ∷ []; upto = upto },
        omega (arith, l, stands.some),
        upto.inside,
      )

  -- the cell that the walk reads begins at its place
  pub stands_unmarked : (old body : List ℕ) (at : ℕ) (c : CellForm) → length old % 8 ≡ 0 → Unmarked old body at
      → cell_verdict s p (first + at) (drop at body) ≡ Ok c → CellStandsAt s p (first + at) c (drop at body)
  stands_unmarked old body at c in_eights k is =
      stands_here s p first body k.cells at k.upto c (ap (λ (i : ℕ). i % 8) k.same_length ∙ in_eights) is

-- c is a cell at the start of the bytes r, and is not free. If each such cell has the length n, c has the length n
pub stride_len : (s : FileSystem) (p : Polarity) (at n : ℕ) (r : List ℕ) (c : CellForm) → CellStandsAt s p at c r
    → ((x behind : List ℕ) → r ≡ x ++ behind → IsCell s p c x → is_free c ≡ false → n ≡ length x) → n ≡ cell_len c
stride_len s p at n r c stands strides =
    strides (take (cell_len c) r) (drop (cell_len c) r) (sym (take-append-drop (cell_len c) r)) stands.cell stands.not_free
    ∙ length-take-le (cell_len c) r stands.within
