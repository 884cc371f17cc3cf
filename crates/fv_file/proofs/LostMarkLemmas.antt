-- A body whose marks can be removed loses them cell by cell: a walk over the body removes the mark of each valid fixed
-- file, and leaves all other bytes as they are. The steps:
-- 1. The first bytes of a part say whether it has a mark, and removing the mark changes only these bytes (`take_without`,
--    `drop_without`). Erased bytes have no mark (`erased_unmarked`).
-- 2. Parts without marks, and one more part, are the joined parts without marks (`part_more`).
-- 3. From a place, the walk goes on to the next cell (`on_cell`), or ends at a fault that is not Fixed, or at the end of
--    the body (`marks_decided`). So the marks can be removed, or a fault stops this, and never both (`body_unmarked`,
--    `marks_never`).
-- 4. There is one way to remove all marks, so the copy is the copy of the walk (`lost_of`).
use Rattle.std.proofs.Common.{◌≡◌, ◌≤◌, ◌<◌, ℕ, ◌+◌, ◌-◌, ◌%◌, [], ◌∷◌, ◌++◌, ◌≢◌, ◌⊎◌, if◌then◌else◌}
use Rattle.fv_base.proofs.Laws.{List, length, take, drop, refl, sym, ap, ◌∙◌, subst, arith, inl, inr, slice_index, slice_set, Ok, Err, Result, zero, suc}
use Rattle.fv_base.proofs.Laws.{Bool, true, false, append_assoc, append-nil, length-append, length-take-le, length-drop, take-append-drop, take-add}
use Rattle.fv_base.proofs.Laws.{First, outer_fault, AllAre, all_are, erased_byte, cases_lt, drop-drop, drop_all, get_or-take, take_all, up_is_not_down}
use Rattle.std.proofs.Math.Seq.{take-set-lt}
use Rattle.std.proofs.lemmas.List.{get_or_past}
use Rattle.fv_base.specs.declared.fault.Fault.{Fault}
use Rattle.fv_base.specs.declared.flash.FileSystem.{FileSystem}
use Rattle.fv_base.specs.declared.flash.Polarity.{Polarity}
use Rattle.fv_base.specs.declared.flash.Polarity.TheVariants.{Ones, Zeros}
use Rattle.fv_file.specs.Words.{TilesUnmarked, Unmarkable, UnmarkingStops, is_marked, without_mark}
use Rattle.fv_file.specs.Words.{CellForm, Free, is_free, offset_of, IsCell, Tiles, NoneFree, cell_len, IsFirstCellFault, unmarked, Unmarks, state_of, is_valid_state}
use Rattle.fv_file.specs.inner.CellVerdicts.{cell_verdict}
use Rattle.fv_file.proofs.BodyLemmas.{TiledUpto, upto_begins, stands_here, one_on, first_here, rest_free, rest_used, whole_kept, free_kept, only_one}
use Rattle.fv_file.proofs.BodyLemmas.{none_after}
use Rattle.fv_file.proofs.CellFoundLemmas.{CellStandsAt}
use Rattle.fv_file.proofs.CellPartLemmas.{cell_least, cell_span}
use Rattle.fv_file.proofs.ErasedByteLemmas.{all_at}
use Rattle.fv_file.proofs.MarkedFileLemmas.{FixedThere, behind_mark, cell_moves, drop-unmarked, fixed_there, length-unmarked, not_fixed_again}
use Rattle.fv_file.proofs.MarkedFileLemmas.{there_held, used_without}
use Rattle.fv_file.proofs.UnmarkLemmas.{fixed_known, front_unmarked, marks_more, one_unmarked, tiled_unfixed, fault_unfixed}
use Rattle.fv_base.specs.declared.fault.FaultKind.TheVariants as kinds

-- ---- 1. the first bytes of a part

module _ (p : Polarity) where
  take_marked : (n : ℕ) (r : List ℕ) → 23 < n → is_marked p (take n r) ≡ is_marked p r
  take_marked n r l =
      let state : slice_index (take n r) 23 ≡ slice_index r 23 = get_or-take n r 23 0 l in
      let kind : slice_index (take n r) 18 ≡ slice_index r 18 = get_or-take n r 18 0 (omega (arith, l)) in
      let attributes : slice_index (take n r) 19 ≡ slice_index r 19 = get_or-take n r 19 0 (omega (arith, l)) in
      rw (state, kind, attributes) refl

  take_unmarked : (n : ℕ) (r : List ℕ) → 23 < n → take n (unmarked 0 r) ≡ unmarked 0 (take n r)
  take_unmarked n r l =
      let sum : slice_index (take n r) 16 ≡ slice_index r 16 = get_or-take n r 16 0 (omega (arith, l)) in
      let attributes : slice_index (take n r) 19 ≡ slice_index r 19 = get_or-take n r 19 0 (omega (arith, l)) in
      let value : ℕ = (slice_index r 16 + 4) % 256 in
      rw (sum, attributes)
      (take-set-lt n (slice_set r 16 value) 19 (slice_index r 19 - 4) (omega (arith, l))
      ∙ ap (λ (q : List ℕ). slice_set q 19 (slice_index r 19 - 4)) (take-set-lt n r 16 value (omega (arith, l))))

  pub take_without : (n : ℕ) (r : List ℕ) → 23 < n → take n (without_mark p r) ≡ without_mark p (take n r)
  take_without n r l = rw (take_marked n r l) (go (is_marked p r)) where
    go : (t : Bool) → take n (if t then unmarked 0 r else r) ≡ (if t then unmarked 0 (take n r) else take n r)
    go true = take_unmarked n r l
    go false = refl

  pub drop_without : (n : ℕ) (r : List ℕ) → 23 < n → drop n (without_mark p r) ≡ drop n r
  drop_without n r l = go (is_marked p r) where
    go : (t : Bool) → drop n (if t then unmarked 0 r else r) ≡ drop n r
    go true = behind_mark n r (omega (arith, l))
    go false = refl

  -- the bytes of a part with a mark, and of a part without one
  pub marked_is : (r : List ℕ) → is_marked p r ≡ true → without_mark p r ≡ unmarked 0 r
  marked_is r e = rw e refl

  pub unmarked_is : (r : List ℕ) → is_marked p r ≡ false → without_mark p r ≡ r
  unmarked_is r e = rw e refl

  pub length-without : (r : List ℕ) → length (without_mark p r) ≡ length r
  length-without r = go (is_marked p r) where
    go : (t : Bool) → length (if t then unmarked 0 r else r) ≡ length r
    go true = length-unmarked 0 r
    go false = refl

-- erased bytes have no mark
erased_state : (p : Polarity) (byte : ℕ) → (byte ≡ erased_byte p) ⊎ (byte ≡ 0) → is_valid_state (state_of p byte) ≡ false
unfolding state_of
erased_state Ones byte (inl e) = rw e refl
erased_state Zeros byte (inl e) = rw e refl
erased_state Ones byte (inr e) = rw e refl
erased_state Zeros byte (inr e) = rw e refl

erased_unmarked : (p : Polarity) (r : List ℕ) → AllAre (erased_byte p) r → is_marked p r ≡ false
erased_unmarked p r all = rw (erased_state p (slice_index r 23) (byte (cases_lt 23 (length r)))) refl where
  byte : (23 < length r) ⊎ (length r ≤ 23) → (slice_index r 23 ≡ erased_byte p) ⊎ (slice_index r 23 ≡ 0)
  byte (inl long) = inl (all_at (erased_byte p) r 23 all long)
  byte (inr short) = inr (get_or_past r 23 0 short)

-- a part with a mark has at least the 24 bytes of a header
pub marked_long : (p : Polarity) (r : List ℕ) → is_marked p r ≡ true → 24 ≤ length r
marked_long p r marked = elim (cases_lt 23 (length r)) [
  | inl long ↦ long
  | inr short ↦ absurd (up_is_not_down (is_marked p r) marked
      (rw (erased_state p (slice_index r 23) (inr (get_or_past r 23 0 short))) refl))
]

-- ---- 2. one more part

pub part_more : (s : FileSystem) (p : Polarity) (at : ℕ) (cs : List CellForm) (c : CellForm) (x y o : List ℕ) → TilesUnmarked s p at cs x o
    → NoneFree cs → IsCell s p c (without_mark p y) → offset_of c ≡ at + length x
    → TilesUnmarked s p at (cs ++ c ∷ []) (x ++ y) (o ++ without_mark p y)
part_more s p at [] c x y o (none, none') free is place = (
  y,
  [],
  [],
  ap (λ (l : List ℕ). l ++ y) none ∙ sym (append-nil y),
  ap (λ (l : List ℕ). l ++ without_mark p y) none' ∙ sym (append-nil (without_mark p y)),
  is,
  omega (arith, place, ap length none),
  λ f. refl,
  (refl, refl),
)
part_more s p at (d ∷ ds) c x y o (u, w, v, e, e', is', place', last, more) free is place =
    let k = part_more s p (at + length u) ds c w y v more free.1 is (omega (arith, place, ap length e, length-append u w)) in (
      u,
      w ++ y,
      v ++ without_mark p y,
      ap (λ (l : List ℕ). l ++ y) e ∙ append_assoc u w y,
      ap (λ (l : List ℕ). l ++ without_mark p y) e' ∙ append_assoc (without_mark p u) v (without_mark p y),
      is',
      place',
      λ f. absurd (up_is_not_down (is_free d) f free.0),
      k,
    )

-- ---- 3. the walk

module _ (s : FileSystem) (p : Polarity) (first : ℕ) (old : List ℕ) where
  -- the marks up to a place are removed, part by part
  record LostUpto (at : ℕ) : Type 0 where
    pub places : List ℕ
    pub body : List ℕ
    pub cells : List CellForm
    pub marks : Unmarks s p first places old body
    pub upto : TiledUpto s p first body cells at
    pub same : drop at body ≡ drop at old
    pub long : length body ≡ length old
    pub parts : TilesUnmarked s p first cells (take at old) (take at body)

  -- the marks are removed part by part, or there is a fault that is not Fixed
  abbrev pub Lost : Type 0
  Lost = (places : List ℕ) × (cells : List CellForm) × (o : List ℕ) × Unmarks s p first places old o
      × Tiles s p first cells o × TilesUnmarked s p first cells old o

  abbrev pub Stops : Type 0
  Stops = (f : Fault) × UnmarkingStops s p first old f

  begins : LostUpto 0
  begins = record {
    places = [];
    body = old;
    cells = [];
    marks = refl;
    upto = upto_begins s p first old;
    same = refl;
    long = refl;
    parts = (refl, refl);
  }

  -- the body after the mark at the place was removed, if there was one
  record Cleared (at : ℕ) (k : LostUpto at) : Type 0 where
    pub places : List ℕ
    pub body : List ℕ
    pub marks : Unmarks s p first places old body
    pub upto : TiledUpto s p first body k.cells at
    pub rest : drop at body ≡ without_mark p (drop at old)
    pub front : take at body ≡ take at k.body
    pub long : length body ≡ length old

  -- the cell at the place is the next part
  on_cell : (at : ℕ) (k : LostUpto at) (n : Cleared at k) (c : CellForm) → CellStandsAt s p (first + at) c (drop at n.body)
      → LostUpto (at + cell_len c)
  on_cell at k n c stands =
      let len : ℕ = cell_len c in
      let r : List ℕ = drop at old in
      let least : 23 < len = omega (
        arith,
        cell_least s p c (take len (drop at n.body)) stands.cell stands.not_free,
        cell_span s p c (take len (drop at n.body)) stands.cell,
      ) in
      let part : take len (drop at n.body) ≡ without_mark p (take len r) = ap (take len) n.rest ∙ take_without p len r least in
      let is : IsCell s p c (without_mark p (take len r)) = subst (IsCell s p c) part stands.cell in
      let before : TilesUnmarked s p first k.cells (take at old) (take at n.body) =
      subst (TilesUnmarked s p first k.cells (take at old)) (sym n.front) k.parts in
      let place : offset_of c ≡ first + length (take at old) =
      omega (arith, stands.place, length-take-le at old (omega (arith, k.upto.inside, k.long))) in
      let more = part_more s p first k.cells c (take at old) (take len r) (take at n.body) before k.upto.none_free is place in
      record {
        places = n.places;
        body = n.body;
        cells = k.cells ++ c ∷ [];
        marks = n.marks;
        upto = one_on s p first n.body k.cells at n.upto c len stands refl;
        same = sym (drop-drop len at n.body) ∙ ap (drop len) n.rest ∙ drop_without p len r least ∙ drop-drop len at old;
        long = n.long;
        parts = subst (λ (l : List ℕ). TilesUnmarked s p first (k.cells ++ c ∷ []) l (take (at + len) n.body)) (sym (take-add at len old))
            (subst (λ (l : List ℕ). TilesUnmarked s p first (k.cells ++ c ∷ []) (take at old ++ take len r) l)
            (ap (λ (l : List ℕ). take at n.body ++ l) (sym part) ∙ sym (take-add at len n.body)) more);
      }

  -- no mark is removed at a place where a cell begins
  abbrev none_cleared : (at : ℕ) (k : LostUpto at) (c : CellForm) → cell_verdict s p (first + at) (drop at k.body) ≡ Ok c → Cleared at k
  none_cleared at k c is = record {
    places = k.places;
    body = k.body;
    marks = k.marks;
    upto = k.upto;
    rest = k.same ∙ sym (unmarked_is p (drop at old) (rw k.same at (cell_moves s p (first + at) (drop at k.body) c is)));
    front = refl;
    long = k.long;
  }

  -- the mark of the fixed file at a place is removed
  one_cleared : (at : ℕ) (k : LostUpto at) (f : Fault) → (at < length k.body) × (AllAre (erased_byte p) (drop at k.body) → ⊥)
      → cell_verdict s p (first + at) (drop at k.body) ≡ Err f → FixedThere s p (first + at) (drop at k.body) f
      → (n : Cleared at k) × (n.body ≡ unmarked at k.body)
  one_cleared at k f used is there =
      let fixed : cell_verdict s p (first + at) (drop at k.body) ≡ Err (outer_fault kinds.Fixed (first + at + 19)) = is ∙ ap Err there.file.fault in
      let here : IsFirstCellFault s p first k.body (outer_fault kinds.Fixed (first + at + 19)) =
      first_here s p first k.body k.cells at k.upto _ used fixed in
      let marked : is_marked p (drop at old) ≡ true = rw k.same at (there_held s p (first + at) (drop at k.body) f there) in (
        record {
          places = k.places ++ at ∷ [];
          body = unmarked at k.body;
          marks = marks_more s p first k.places at old k.body k.marks here;
          upto = record {
            tiled = rw front_unmarked k.upto.tiled;
            none_free = k.upto.none_free;
            multiple = k.upto.multiple;
            inside = rw length-unmarked k.upto.inside;
          };
          rest = drop-unmarked at k.body ∙ ap (unmarked 0) k.same ∙ sym (marked_is p (drop at old) marked);
          front = front_unmarked at k.body;
          long = length-unmarked at k.body ∙ k.long;
        },
        refl,
      )

  -- at the end of the body, or before an erased rest, the marks are removed from all parts
  ends : (at : ℕ) (k : LostUpto at) → AllAre (erased_byte p) (drop at k.body) → Lost
  ends at k clean = elim (cases_lt at (length k.body)) [
    | inl some ↦
        let c : CellForm = Free (first + at) (length k.body - at) in
        let r : List ℕ = drop at old in
        let none : without_mark p r ≡ r = unmarked_is p r (erased_unmarked p r (subst (AllAre (erased_byte p)) k.same clean)) in
        let part : IsCell s p c (without_mark p r) =
        rw (none, ← k.same) (omega (arith, some), clean, sym (length-drop at k.body)) in
        let place : offset_of c ≡ first + length (take at old) = omega (arith, length-take-le at old (omega (arith, k.upto.inside, k.long))) in
        let more = part_more s p first k.cells c (take at old) r (take at k.body) k.parts k.upto.none_free part place in (
          k.places,
          k.cells ++ c ∷ [],
          k.body,
          k.marks,
          free_kept s p first k.body k.cells at k.upto some clean,
          subst (λ (l : List ℕ). TilesUnmarked s p first (k.cells ++ c ∷ []) l k.body) (take-append-drop at old)
              (subst (λ (l : List ℕ). TilesUnmarked s p first (k.cells ++ c ∷ []) (take at old ++ r) l)
              (ap (λ (l : List ℕ). take at k.body ++ l) (none ∙ sym k.same) ∙ take-append-drop at k.body) more),
        )
    | inr past ↦ (
      k.places,
      k.cells,
      k.body,
      k.marks,
      whole_kept s p first k.body k.cells at k.upto past,
      subst (λ (l : List ℕ). TilesUnmarked s p first k.cells l k.body) (take_all at old (omega (arith, past, k.long)))
          (subst (λ (l : List ℕ). TilesUnmarked s p first k.cells (take at old) l) (take_all at k.body past) k.parts),
    )
  ]

  -- a body has no copy without its marks if a fault stops their removal
  pub marks_never : (f : Fault) → Unmarkable s p first old → UnmarkingStops s p first old f → ⊥
  marks_never f (places, o, marks, (cells, tiles)) (qs, x, marks', here, other) =
      let same : x ≡ o = one_unmarked s p first places qs old o x marks (tiled_unfixed s p first o cells tiles) marks'
      (fault_unfixed s p first x f here other) in
      none_after First s p first o f cells (subst (λ (l : List ℕ). IsFirstCellFault s p first l f) same here) tiles

  module _ (in_eights : length old % 8 ≡ 0) where
    abbrev GoesOn : ℕ → Type 0
    GoesOn n = (at : ℕ) → LostUpto at → length old ≤ at + n → Lost ⊎ Stops

    -- the walk goes on after the cell at a place
    after : (n at : ℕ) → GoesOn n → (k : LostUpto at) (m : Cleared at k) (c : CellForm) → length old ≤ at + suc n
        → cell_verdict s p (first + at) (drop at m.body) ≡ Ok c → Lost ⊎ Stops
    after n at on k m c more is =
        let stands = stands_here s p first m.body k.cells at m.upto c (ap (λ (i : ℕ). i % 8) m.long ∙ in_eights) is in
        on (at + cell_len c) (on_cell at k m c stands) (omega (arith, more, stands.some))

    -- the walk ends at a fault that is not Fixed
    at_fault : (at : ℕ) (k : LostUpto at) (m : Cleared at k) (f : Fault) → (at < length m.body) × (AllAre (erased_byte p) (drop at m.body) → ⊥)
        → cell_verdict s p (first + at) (drop at m.body) ≡ Err f → f.kind ≢ kinds.Fixed → Stops
    at_fault at k m f used is other = (f, (m.places, m.body, m.marks, first_here s p first m.body k.cells at m.upto f used is, other))

    -- without its mark, the file at a place is a cell, or has a fault that is not Fixed
    cleared : (n at : ℕ) → GoesOn n → (k : LostUpto at) (f : Fault) → length old ≤ at + suc n
        → (at < length k.body) × (AllAre (erased_byte p) (drop at k.body) → ⊥)
        → FixedThere s p (first + at) (drop at k.body) f → (m : Cleared at k) → m.body ≡ unmarked at k.body → Lost ⊎ Stops
    cleared n at on k f more used there m is_body = go (cell_verdict s p (first + at) (drop at m.body)) refl where
      same : drop at m.body ≡ unmarked 0 (drop at k.body)
      same = ap (drop at) is_body ∙ drop-unmarked at k.body

      go : (r : Result CellForm Fault) → cell_verdict s p (first + at) (drop at m.body) ≡ r → Lost ⊎ Stops
      go (Ok c) is = after n at on k m c more is
      go (Err g) is =
          let used' : (at < length m.body) × (AllAre (erased_byte p) (drop at m.body) → ⊥) =
          (omega (arith, used.0, ap length is_body, length-unmarked at k.body), rw same (used_without s p (first + at) (drop at k.body) f there)) in
          inr (at_fault at k m g used' is (not_fixed_again s p (first + at) (drop at k.body) f there g (rw same at is)))

    walk : (n : ℕ) → GoesOn n
    walk zero at k more = inl (ends at k (subst (AllAre (erased_byte p)) (sym (drop_all at k.body (omega (arith, more, k.long)))) tt))
    walk (suc n) at k more = by_rest (walk n) (all_are (erased_byte p) (drop at k.body)) refl where
      by_fault : GoesOn n → (at < length k.body) × (AllAre (erased_byte p) (drop at k.body) → ⊥) → (f : Fault)
          → cell_verdict s p (first + at) (drop at k.body) ≡ Err f → (f.kind ≡ kinds.Fixed) ⊎ (f.kind ≢ kinds.Fixed) → Lost ⊎ Stops
      by_fault on used f is (inr other) =
          inr (f, (k.places, k.body, k.marks, first_here s p first k.body k.cells at k.upto f used is, other))
      by_fault on used f is (inl kind) =
          let there = fixed_there s p (first + at) (drop at k.body) f is kind in
          let (m, is_body) = one_cleared at k f used is there in
          cleared n at on k f more used there m is_body

      by_verdict : GoesOn n → (at < length k.body) × (AllAre (erased_byte p) (drop at k.body) → ⊥) → (r : Result CellForm Fault)
          → cell_verdict s p (first + at) (drop at k.body) ≡ r → Lost ⊎ Stops
      by_verdict on used (Ok c) is = after n at on k (none_cleared at k c is) c more is
      by_verdict on used (Err f) is = by_fault on used f is (fixed_known f)

      by_rest : GoesOn n → (t : Bool) → all_are (erased_byte p) (drop at k.body) ≡ t → Lost ⊎ Stops
      by_rest on true clean = inl (ends at k (rest_free (erased_byte p) (drop at k.body) k.body at refl clean))
      by_rest on false used = by_verdict on (rest_used (erased_byte p) (drop at k.body) k.body at refl used) _ refl

    pub marks_decided : Lost ⊎ Stops
    marks_decided = walk (length old) 0 begins (omega arith)

    pub body_unmarked : Unmarkable s p first old ⊎ ((f : Fault) × UnmarkingStops s p first old f)
    body_unmarked = elim marks_decided [
      | inl (places, cells, o, marks, tiles, parts) ↦ inl (places, o, marks, (cells, tiles))
      | inr stops ↦ inr stops
    ]

    -- ---- 4. the only copy

    -- if cells tile the body without its marks, each part of the body has lost its mark
    pub lost_of : (places : List ℕ) (o : List ℕ) (cells : List CellForm) → Unmarks s p first places old o → Tiles s p first cells o
        → TilesUnmarked s p first cells old o
    lost_of places o cells marks tiles = elim marks_decided [
      | inl (qs, ds, x, marks', tiles', parts) ↦
          let same : x ≡ o = one_unmarked s p first places qs old o x marks (tiled_unfixed s p first o cells tiles) marks'
          (tiled_unfixed s p first x ds tiles') in
          let cells_are : ds ≡ cells = only_one s p first o cells ds tiles (subst (Tiles s p first ds) same tiles') in
          subst (λ (cs : List CellForm). TilesUnmarked s p first cs old o) cells_are
          (subst (TilesUnmarked s p first ds old) same parts)
      | inr (f, stops) ↦ absurd (marks_never f (places, o, marks, (cells, tiles)) stops)
    ]
