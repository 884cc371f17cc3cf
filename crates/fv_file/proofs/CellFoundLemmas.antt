-- If the checks of a cell hold, the bytes begin with the cell that State and the header describe. A file and its filler
-- lie within the bytes, because the number of bytes is a multiple of 8. A header under construction or an invalid
-- header lies within the bytes, because the only check of this cell says so.
use Rattle.std.proofs.Common.{◌≡◌, ◌≤◌, ◌<◌, ℕ, ◌-◌, ◌%◌, add-sub_of_le, ◌==◌, if◌then◌else◌, leb-true}
use Rattle.fv_base.proofs.Laws.{List, length, take, drop, refl, sym, arith, Bool, true, false, length-drop, not, nat_le, slice_index, Option, None}
use Rattle.fv_base.proofs.Laws.{Some, eqb-true, eq-eqb, length-take-le, get_or-take, take-add, AllHold, up_to_8, all_hold, and_split, common_steps}
use Rattle.fv_base.specs.declared.flash.FileSystem.{FileSystem}
use Rattle.fv_base.specs.declared.flash.Polarity.{Polarity}
use Rattle.fv_base.specs.inner.Verdicts.{first_fault}
use Rattle.fv_file.specs.Words.{CellForm, Valid, Pad, Dead, Stub, offset_of, is_free, IsFilled, IsCell, cell_len, is_large, file_header_len_at}
use Rattle.fv_file.specs.Words.{file_size_at, payload_at, state_checks, cell_checks, attributes_at, head_in, pad_kind, StateOf, bits_of, state_of}
use Rattle.fv_file.specs.Words.{is_alive}
use Rattle.fv_file.specs.declared.state.FileState.{FileState}
use Rattle.fv_file.specs.inner.CellVerdicts.{cell_in, cell_of, StateSort, sort_of, sort_checks}
use Rattle.fv_file.specs.inner.CellVerdicts as sorts
use Rattle.fv_file.proofs.FileLemmas.{header_least, FileAt, file_at}
use Rattle.fv_file.proofs.SortLemmas.{StatesOf, sorted, free_bits}

-- the bytes begin with a cell that is not free
pub record CellStandsAt (system : FileSystem) (polarity : Polarity) (at : ℕ) (c : CellForm) (r : List ℕ) : Type 0 where
  pub not_free : is_free c ≡ false
  pub place : offset_of c ≡ at
  pub within : cell_len c ≤ length r
  pub some : 0 < cell_len c
  pub multiple : cell_len c % 8 ≡ 0
  pub cell : IsCell system polarity c (take (cell_len c) r)

-- if the bytes begin with a file, they begin with a cell that has the bytes of the file and its filler
filled_stands : (s : FileSystem) (p : Polarity) (st : FileState) (at : ℕ) (r : List ℕ) (c : CellForm) → length r % 8 ≡ 0 → FileAt s p st r
    → is_free c ≡ false → offset_of c ≡ at → cell_len c ≡ up_to_8 (file_size_at r)
    → (IsFilled s p (head_in st r) (payload_at r) (take (cell_len c) r) → cell_len c ≡ length (take (cell_len c) r)
    → IsCell s p c (take (cell_len c) r)) → CellStandsAt s p at c r
filled_stands s p st at r c in_eights f used place span cell =
    let n : ℕ = file_size_at r in
    let m : ℕ = cell_len c in
    let above : n ≤ m = omega (arith, span) in
    let multiple : m % 8 ≡ 0 = omega (arith, span) in
    let within : m ≤ length r = omega (arith, span, f.within, in_eights) in
    let long : length (take m r) ≡ m = length-take-le m r within in
    record {
      not_free = used;
      place = place;
      within = within;
      some = omega (arith, f.least, header_least (is_large (attributes_at r)), above);
      multiple = multiple;
      cell = cell (record {
        file = take n r;
        filler = take (m - n) (drop n r);
        text = rw (add-sub_of_le above) at (take-add n (m - n) r);
        is_file = f.is_file;
        short = omega (arith, length-take-le (m - n) (drop n r) (omega (arith, length-drop n r, within)), span);
        multiple = rw long multiple;
      }) (sym long);
    }

-- a header under construction or an invalid header is a cell, if the header lies within the bytes
stub_stands : (s : FileSystem) (p : Polarity) (at : ℕ) (r : List ℕ) (st : FileState) → file_header_len_at r ≤ length r
    → StateOf (slice_index r 23) p st → StatesOf sorts.Unfinished st → CellStandsAt s p at (Stub at (file_header_len_at r)) r
stub_stands s p at r st within state is = grind (arith, common_steps, header_least, length-take-le, get_or-take)

-- if the State byte shows a state, and the checks for the sort of this state hold, the bytes begin with a cell of this
-- sort
sort_stands : (s : FileSystem) (p : Polarity) (st : FileState) (at : ℕ) (r : List ℕ) → length r % 8 ≡ 0 → 24 ≤ length r
    → StateOf (slice_index r 23) p st → not (bits_of p (slice_index r 23) == 0) ≡ true
    → (k : StateSort) → StatesOf k st → AllHold (sort_checks k s (is_alive st) at r)
    → CellStandsAt s p at (cell_of k at (head_in st r) (payload_at r)) r
sort_stands s p st at r in_eights long state used sorts.Erased is all =
    cc (used, eq-eqb _ 0 (free_bits p (slice_index r 23) (rw is at state)))
sort_stands s p st at r in_eights long state used sorts.Unfinished is all = stub_stands s p at r st (leb-true _ _ all.0) state is
sort_stands s p st at r in_eights long state used sorts.Dead is all =
    filled_stands s p st at r (Dead at (up_to_8 (file_size_at r)) st) in_eights (file_at s p st at r long state all) refl refl refl
    (λ filled len. (head_in st r, payload_at r, filled, refl, is, len))
sort_stands s p st at r in_eights long state used sorts.Valid alive all = kind (slice_index r 18 == pad_kind) refl where
  file : FileAt s p st r
  file = file_at s p st at r long state all

  kind : (t : Bool) → (slice_index r 18 == pad_kind) ≡ t
      → CellStandsAt s p at (if t then Pad at (head_in st r) (payload_at r) else Valid at (head_in st r) (payload_at r)) r
  kind true e = filled_stands s p st at r _ in_eights file refl refl refl (λ filled len. (filled, alive, eqb-true _ _ e))
  kind false e = filled_stands s p st at r _ in_eights file refl refl refl (λ filled len. (filled, alive, file.sound alive e))

-- if all checks of a cell hold, the bytes begin with the cell that is read
pub cell_stands : (s : FileSystem) (p : Polarity) (at : ℕ) (r : List ℕ) → length r % 8 ≡ 0 → first_fault (cell_checks s p at r) ≡ None
    → CellStandsAt s p at (cell_in (state_of p (slice_index r 23)) at r) r
cell_stands s p at r in_eights none =
    let all = all_hold (cell_checks s p at r) none in
    let front = and_split (nat_le 24 (length r)) (not (bits_of p (slice_index r 23) == 0)) all.0 in
    by_state (state_of p (slice_index r 23)) refl (leb-true 24 (length r) front.0) front.1 all.1
  where
    by_state : (o : Option FileState) → state_of p (slice_index r 23) ≡ o → 24 ≤ length r
        → not (bits_of p (slice_index r 23) == 0) ≡ true → AllHold (state_checks o s at r) → CellStandsAt s p at (cell_in o at r) r
    by_state None e long used all = let failed = all.0 in cc
    by_state (Some st) e long used all =
        sort_stands s p st at r in_eights long e used (sort_of st) (sorted st).states (rw (sorted st).checks at all)
