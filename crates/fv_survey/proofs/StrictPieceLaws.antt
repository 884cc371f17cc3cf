-- Where a walk passes a cell, all checks of a cell hold, also if more bytes follow the cell (`walked_sound`). So the
-- strict reading has no fault there. Where a walk fails, the fault is the first fault of the checks (`failed_first`).
use Rattle.std.proofs.Common.{if◌then◌else◌, ◌≡◌, ◌≤◌, ◌<◌, ◌-◌, ◌==◌, ℕ, [], ◌∷◌, ◌++◌, leb-true, IfSome, IfNone, Bool, true, false, not}
use Rattle.fv_base.proofs.Laws.{List, length, take, refl, sym, ap, ◌∙◌, arith, append-nil, length-append, slice_index, le-leb}
use Rattle.fv_base.proofs.Laws.{AllAre, AllHold, Check, erased_byte, all_hold, none_faulty, none_fails, first_is}
use Rattle.fv_base.proofs.Laws.{one_fault, and_split, and_join, at_index, get_or-append, take-append-le, field-append_front, field, le, le_at, eq-eqb}
use Rattle.fv_base.proofs.Laws.{Option, None, Some, First, nat_le, up_is_not_down}
use Rattle.fv_base.specs.inner.Verdicts.{first_fault}
use Rattle.fv_base.specs.declared.fault.Fault.{Fault}
use Rattle.fv_base.specs.declared.flash.FileSystem.{FileSystem}
use Rattle.fv_base.specs.declared.flash.Polarity.{Polarity}
use Rattle.fv_base.specs.declared.flash.Polarity.TheVariants.{Ones, Zeros}
use Rattle.fv_file.proofs.Laws.{header_least, none_after, only_one}
use Rattle.fv_file.specs.Words.{CellForm, Free, Tiles, NoneFree, is_free, file_checks, stub_checks, state_checks, cell_checks, file_header_len}
use Rattle.fv_file.specs.Words.{file_header_len_at, file_size_at, file_size_in, is_large, bits_of, state_in, state_of, allows_large}
use Rattle.fv_file.specs.Words.{left_at, CellsLeft, Walked, IsNextFault, cell_form}
use Rattle.fv_file.specs.declared.cell.Cell.{Cell}
use Rattle.fv_file.specs.declared.state.FileState.{FileState}
use Rattle.fv_file.specs.declared.state.FileState.TheVariants as states
use Rattle.fv_survey.specs.Words.{first_kind, header_len_by, is_stub_state, may_be_header, size_by, sizes_by, strict_kind, system_by}
use Rattle.fv_survey.specs.declared.pieces.Layout.{Layout}
use Rattle.fv_survey.specs.declared.pieces.Sizes.{Sizes}
use Rattle.fv_survey.specs.declared.systems.Files.{Files}
use Rattle.fv_survey.specs.declared.systems.Files.TheVariants as files
use Rattle.std.specs.Prelude.{option_map, ◌||◌}
use Rattle.fv_base.proofs.Laws.{nat_tests}

-- ---- the checks of more bytes

module _ (s : FileSystem) (x y : List ℕ) where
  byte_front : (k : ℕ) → k < length x → slice_index (x ++ y) k ≡ slice_index x k
  byte_front k l = get_or-append x y 0 k l

  size_front : (large : Bool) → 24 ≤ length x → file_header_len large ≤ length x → file_size_in large (x ++ y) ≡ file_size_in large x
  size_front false long l = ap le (field-append_front 20 3 x y (omega arith))
  size_front true long l = ap le (field-append_front 24 8 x y (omega arith))

  longer : (n : ℕ) → nat_le n (length x) ≡ true → nat_le n (length (x ++ y)) ≡ true
  longer n h = le-leb n (length (x ++ y)) (omega (arith, leb-true n (length x) h, length-append x y))

  -- if the checks of a file hold, they hold with more bytes
  file_front : (alive : Bool) (at : ℕ) → 24 ≤ length x → AllHold (file_checks s alive at x) → AllHold (file_checks s alive at (x ++ y))
  file_front alive at long (allowed, (within, (zero, (fits, (moves, (sum, none)))))) =
      let n : ℕ = file_header_len_at x in
      let m : ℕ = file_size_at x in
      let e17 : slice_index (x ++ y) 17 ≡ slice_index x 17 = byte_front 17 (omega arith) in
      let e18 : slice_index (x ++ y) 18 ≡ slice_index x 18 = byte_front 18 (omega arith) in
      let e19 : slice_index (x ++ y) 19 ≡ slice_index x 19 = byte_front 19 (omega arith) in
      let e20 : le_at 20 3 (x ++ y) ≡ le_at 20 3 x = ap le (field-append_front 20 3 x y (omega arith)) in
      let inside : n ≤ length x = leb-true n (length x) within in
      let size : file_size_in (is_large (slice_index x 19)) (x ++ y) ≡ m = size_front (is_large (slice_index x 19)) long inside in
      let header : take n (x ++ y) ≡ take n x = take-append-le n x y inside in
      let parts = and_split (nat_le n m) _ fits in
      let ends = and_split (nat_le m (length x)) _ parts.1 in
      let payload : field n (m - n) (x ++ y) ≡ field n (m - n) x =
      field-append_front n (m - n) x y (omega (arith, leb-true n m parts.0, leb-true m (length x) ends.0)) in
      rw (e17, e18, e19, size, header, e20, payload)
      (allowed, (longer n within, (zero, (and_join _ _ parts.0 (and_join _ _ (longer m ends.0) ends.1), (moves, (sum, none))))))

  stub_front : (at : ℕ) → 24 ≤ length x → AllHold (stub_checks at x) → AllHold (stub_checks at (x ++ y))
  stub_front at long (within, none) =
      let e19 : slice_index (x ++ y) 19 ≡ slice_index x 19 = byte_front 19 (omega arith) in
      rw e19 (longer (file_header_len_at x) within, none)

  -- if the checks of a state hold, they hold with more bytes
  state_front : (o : Option FileState) (at : ℕ) → 24 ≤ length x → AllHold (state_checks o s at x) → AllHold (state_checks o s at (x ++ y))
  state_front None at long h = let failed = h.0 in cc
  state_front (Some states.Free) at long h = tt
  state_front (Some states.Construction) at long h = stub_front at long h
  state_front (Some states.HeaderInvalid) at long h = stub_front at long h
  state_front (Some states.HeaderValid) at long h = file_front false at long h
  state_front (Some states.Deleted) at long h = file_front false at long h
  state_front (Some states.DataValid) at long h = file_front true at long h
  state_front (Some states.Marked) at long h = file_front true at long h

  -- if the checks of a cell hold, they hold with more bytes
  cell_front : (p : Polarity) (at : ℕ) → AllHold (cell_checks s p at x) → AllHold (cell_checks s p at (x ++ y))
  cell_front p at (front, rest) =
      let parts = and_split (nat_le 24 (length x)) _ front in
      let long : 24 ≤ length x = leb-true 24 (length x) parts.0 in
      let e23 : slice_index (x ++ y) 23 ≡ slice_index x 23 = byte_front 23 (omega arith) in
      rw e23 (and_join _ _ (longer 24 parts.0) parts.1, state_front (state_of p (slice_index x 23)) at long rest)

-- ---- a cell that a walk passes

-- no bit of an erased byte was written
no_bits : (p : Polarity) (b : ℕ) → b ≡ erased_byte p → not (bits_of p b == 0) ≡ false
no_bits Ones b e = rw e refl
no_bits Zeros b e = rw e refl

-- where a header may begin, not all bytes are erased
pub header_used : (p : Polarity) (r : List ℕ) → may_be_header p r ≡ true → AllAre (erased_byte p) r → ⊥
header_used p r h all =
    let parts = and_split (nat_le 24 (length r)) _ h in
    let byte : slice_index r 23 ≡ erased_byte p =
    at_index (λ (b : ℕ). b ≡ erased_byte p) r 23 0 all (omega (arith, leb-true 24 (length r) parts.0)) in
    up_is_not_down _ parts.1 (no_bits p (slice_index r 23) byte)

module _ (s : FileSystem) (p : Polarity) where
  -- a cell has some bytes
  cell_some : (at : ℕ) (c : CellForm) (x : List ℕ) → Tiles s p at (c ∷ []) x → 0 < length x
  cell_some at c [] t = let same = only_one s p at [] (c ∷ []) [] t refl in cc
  cell_some at c (a ∷ x) t = omega arith

  -- a cell of erased bytes is free
  erased_free : (c : CellForm) (x : List ℕ) → Tiles s p 0 (c ∷ []) x → AllAre (erased_byte p) x → is_free c ≡ true
  erased_free c x t all =
      let free : Tiles s p 0 (Free 0 (length x) ∷ []) x =
      (x, [], sym (append-nil x), (cell_some 0 c x t, all, refl), refl, λ f. refl, refl) in
      let same : c ∷ [] ≡ Free 0 (length x) ∷ [] = only_one s p 0 x _ (c ∷ []) free t in
      ap head_free same
    where
      head_free : List CellForm → Bool
      head_free [] = false
      head_free (d ∷ ds) = is_free d

  -- all checks hold for the bytes of a cell that are not all erased
  alone_sound : (c : CellForm) (x : List ℕ) → Tiles s p 0 (c ∷ []) x → (AllAre (erased_byte p) x → ⊥) → AllHold (cell_checks s p 0 x)
  alone_sound c x t used = go (first_fault (cell_checks s p 0 x)) refl where
    go : (o : Option Fault) → first_fault (cell_checks s p 0 x) ≡ o → AllHold (cell_checks s p 0 x)
    go None is = all_hold (cell_checks s p 0 x) is
    go (Some f) is = absurd (none_after First s p 0 x f (c ∷ []) (record {
      cells = [];
      at = 0;
      tiled = refl;
      none_free = tt;
      inside = cell_some 0 c x t;
      not_erased = used;
      fails = first_is (cell_checks s p 0 x) f is;
    }) t)

  -- where a header may begin and a walk passes a cell, all checks of a cell hold
  pub walked_sound : (r : List ℕ) (c : CellForm) (b : CellsLeft) → may_be_header p r ≡ true → Walked (left_at s p 0 r) (c ∷ []) b
      → first_fault (cell_checks s p 0 r) ≡ None
  walked_sound r c b header w = rw w.text (none_faulty (cell_checks s p 0 (w.passed ++ b.rest)) (cell_front s w.passed b.rest p 0 (alone_sound c w.passed w.tiled used))) where
    used : AllAre (erased_byte p) w.passed → ⊥
    used all = go b.rest w.text w.none_free where
      go : (rest : List ℕ) → r ≡ w.passed ++ rest → (0 < length rest → NoneFree (c ∷ [])) → ⊥
      go [] text free = header_used p r header (rw (text, append-nil) all)
      go (a ∷ rest) text free = up_is_not_down _ (erased_free c w.passed w.tiled all) (free (omega arith)).0

  -- the fault of a walk is the first fault
  pub failed_first : (r : List ℕ) (f : Fault) → IsNextFault (left_at s p 0 r) f → first_fault (cell_checks s p 0 r) ≡ Some f
  failed_first r f (used, first) = go (first_fault (cell_checks s p 0 r)) refl where
    go : (o : Option Fault) → first_fault (cell_checks s p 0 r) ≡ o → first_fault (cell_checks s p 0 r) ≡ Some f
    go None is = absurd (none_fails First (cell_checks s p 0 r) f first (all_hold (cell_checks s p 0 r) is))
    go (Some g) is = is ∙ ap Some (one_fault (cell_checks s p 0 r) g f (first_is (cell_checks s p 0 r) g is) first)

  -- a walk that does not fail where a header may begin passes a cell, and all checks of this cell hold
  pub none_failed : (r : List ℕ) (o : Option Cell) (b : CellsLeft) → may_be_header p r ≡ true
      → IfSome o (λ c. Walked (left_at s p 0 r) (cell_form c ∷ []) b) → IfNone o ((r ≡ []) × (b ≡ left_at s p 0 r))
      → first_fault (cell_checks s p 0 r) ≡ None
  none_failed r None b header some none = absurd (header_used p r header (rw none.0 tt))
  none_failed r (Some c) b header some none = walked_sound r (cell_form c) b header some

-- ---- the sizes of a strict file

-- where the strict reading allows the form of the header, it reads the same sizes
pub same_sizes : (f : Files) (large : Bool) (r : List ℕ) → is_large (slice_index r 19) ≡ large
    → (not large || allows_large (system_by f)) ≡ true
    → (header_len_by f r ≡ file_header_len large) × (size_by (header_len_by f r) r ≡ file_size_in large r)
same_sizes f false r is allowed = rw is (refl, refl)
same_sizes files.Ffs3 true r is allowed = rw is (refl, refl)
same_sizes files.Ffs2 true r is allowed = cc
same_sizes files.Ffs1 true r is allowed = cc
same_sizes files.Store true r is allowed = cc
same_sizes files.Unknown true r is allowed = cc

-- the sizes of a file are possible
abbrev pub Fit : Sizes → List ℕ → Type 0
Fit sizes r = (24 ≤ sizes.header) × (sizes.header ≤ sizes.size) × (sizes.size ≤ length r)

-- if the checks of a file hold, the sizes are possible
file_fit : (f : Files) (alive : Bool) (r : List ℕ) → AllHold (file_checks (system_by f) alive 0 r) → Fit (sizes_by f r) r
unfolding sizes_by
file_fit f alive r (allowed, (within, (zero, (fits, more)))) =
    let same = same_sizes f (is_large (slice_index r 19)) r refl allowed in
    let parts = and_split (nat_le (file_header_len_at r) (file_size_at r)) _ fits in
    let ends = and_split (nat_le (file_size_at r) (length r)) _ parts.1 in
    rw (same.1, same.0) (header_least (is_large (slice_index r 19)), leb-true _ _ parts.0, leb-true _ _ ends.0)

state_fit : (f : Files) (o : Option FileState) (r : List ℕ) → is_stub_state o ≡ false → (o ≡ Some states.Free → ⊥)
    → AllHold (state_checks o (system_by f) 0 r) → Fit (sizes_by f r) r
state_fit f None r stub free h = let failed = h.0 in cc
state_fit f (Some states.Free) r stub free h = absurd (free refl)
state_fit f (Some states.Construction) r stub free h = cc
state_fit f (Some states.HeaderInvalid) r stub free h = cc
state_fit f (Some states.HeaderValid) r stub free h = file_fit f false r h
state_fit f (Some states.Deleted) r stub free h = file_fit f false r h
state_fit f (Some states.DataValid) r stub free h = file_fit f true r h
state_fit f (Some states.Marked) r stub free h = file_fit f true r h

-- a State byte that shows the state Free has no bit that was written
free_in : (n : ℕ) → state_in n ≡ Some states.Free → n ≡ 0
free_in n is = grind (arith, nat_tests, is)

pub not_free : (p : Polarity) (b : ℕ) → not (bits_of p b == 0) ≡ true → state_of p b ≡ Some states.Free → ⊥
unfolding state_of
not_free p b used is = cc (used, eq-eqb (bits_of p b) 0 (free_in (bits_of p b) is))

-- the strict kind is the kind of the first fault
kind_is : (cs : List (Check Fault)) → first_kind cs ≡ option_map (λ (f : Fault). f.kind) (first_fault cs)
kind_is [] = refl
kind_is (c ∷ cs) = go c.holds (kind_is cs) where
  go : (t : Bool) → first_kind cs ≡ option_map (λ (f : Fault). f.kind) (first_fault cs)
      → (if t then first_kind cs else Some c.fault.kind) ≡ option_map (λ (f : Fault). f.kind) (if t then first_fault cs else Some c.fault)
  go true e = e
  go false e = refl

pub strict_is : (layout : Layout) (r : List ℕ)
    → strict_kind layout r ≡ option_map (λ (f : Fault). f.kind) (first_fault (cell_checks (system_by layout.files) layout.polarity 0 r))
unfolding strict_kind
strict_is layout r = kind_is (cell_checks (system_by layout.files) layout.polarity 0 r)

-- if the strict reading finds no fault, all checks of a cell hold
kind_none : (o : Option Fault) → option_map (λ (f : Fault). f.kind) o ≡ None → o ≡ None
kind_none None is = refl
kind_none (Some f) is = cc

pub strict_holds : (layout : Layout) (r : List ℕ) → strict_kind layout r ≡ None
    → AllHold (cell_checks (system_by layout.files) layout.polarity 0 r)
strict_holds layout r is =
    all_hold (cell_checks (system_by layout.files) layout.polarity 0 r)
    (kind_none (first_fault (cell_checks (system_by layout.files) layout.polarity 0 r)) (sym (strict_is layout r) ∙ is))

-- a strict file has possible sizes
pub sound_fit : (layout : Layout) (r : List ℕ) → strict_kind layout r ≡ None
    → is_stub_state (state_of layout.polarity (slice_index r 23)) ≡ false → Fit (sizes_by layout.files r) r
sound_fit layout r is stub =
    let all = strict_holds layout r is in
    let front = and_split (nat_le 24 (length r)) _ all.0 in
    state_fit layout.files (state_of layout.polarity (slice_index r 23)) r stub (not_free layout.polarity (slice_index r 23) front.1) all.1

-- a strict stub lies within the bytes
pub stub_within : (layout : Layout) (r : List ℕ) → strict_kind layout r ≡ None
    → is_stub_state (state_of layout.polarity (slice_index r 23)) ≡ true → file_header_len_at r ≤ length r
stub_within layout r is stub = go (state_of layout.polarity (slice_index r 23)) stub (strict_holds layout r is).1 where
  go : (o : Option FileState) → is_stub_state o ≡ true → AllHold (state_checks o (system_by layout.files) 0 r)
      → file_header_len_at r ≤ length r
  go (Some states.Construction) stub h = leb-true _ _ h.0
  go (Some states.HeaderInvalid) stub h = leb-true _ _ h.0
  go _ stub h = cc
