-- A fixed file without its mark is a cell, or its fault is FileSum. The steps:
-- 1. If the fault of a cell is Fixed, the cell is a file that is valid by its state, the header of the file is right,
--    and the file is fixed (`fixed_there`). State, Type and Attributes of this header show the mark (`there_held`).
--    The header of a cell that is read does not show a mark that has to be taken away (`cell_moves`).
-- 2. Without the mark, all bytes but two are the same (`other`, `behind_mark`). One of the two bytes is more by 4, and
--    the other is less by 4, so the sum of the header is the same modulo 256 (`front_sum`, `middle_sum`, `around_sum`).
--    The other fields are the same (`fields_kept`).
-- 3. So the header is right as before (`right_still`), and the data are checked as before (`skipped_same`,
--    `file_sum_same`).
-- 4. So if the fault of a file is Fixed, the file without its mark is a cell (`cell_without`), or its fault is FileSum
--    (`wrong_without`). Its fault is not Fixed again (`not_fixed_again`).
use Rattle.std.proofs.Common.{◌≡◌, ◌≤◌, ◌<◌, ℕ, ◌+◌, ◌-◌, ◌%◌, ◌≢◌, ◌||◌, ◌==◌, sum, ◌&&◌, leb-true}
use Rattle.fv_base.proofs.Laws.{List, length, take, drop, refl, sym, ap, ◌∙◌, arith, Bool, true, false, not, slice_index, slice_set, Some, Ok, Err}
use Rattle.fv_base.proofs.Laws.{ltb-true, get_or-drop, get_or-set_same, get_or-set_other, drop-set-lt, length-set, length-drop, get_or-take}
use Rattle.fv_base.proofs.Laws.{length-take-le, nat_le, Option, None, eq-eqb, nat_tests, take-set-le, drop-take, field, le, outer_fault, up_to_8}
use Rattle.fv_base.proofs.Laws.{field-take, take-take_le, common_steps, AllAre, AllHold, erased_byte, and_split, or_parts}
use Rattle.std.proofs.lemmas.List.{drop-set-add}
use Rattle.std.proofs.lemmas.List.Sums.{sum_by-set}
use Rattle.std.proofs.Math.Seq.{take-set-lt}
use Rattle.fv_file.proofs.FileLemmas.{header_least}
use Rattle.fv_base.specs.declared.fault.Fault.{Fault}
use Rattle.fv_base.specs.declared.flash.FileSystem.{FileSystem}
use Rattle.fv_base.specs.declared.flash.Polarity.{Polarity}
use Rattle.fv_file.specs.Words.{CellForm, cell_len, attributes_at, state_at, is_fixed, is_large, is_summed, is_alive, file_header_len, file_size_in}
use Rattle.fv_file.specs.Words.{file_header_len_at, file_size_at, payload_at, header_sum_of, allows_large, state_of, has_file_sum, skips_data}
use Rattle.fv_file.specs.Words.{unmarked, but_for_mark, head_in, pad_kind, file_checks, state_checks, bits_of, is_valid_state}
use Rattle.fv_file.specs.declared.state.FileState.{FileState}
use Rattle.fv_file.specs.inner.CellVerdicts.{is_held, file_verdict, cell_verdict, cell_with, sort_of, sort_checks, stray, StateSort}
use Rattle.fv_file.proofs.FileVerdictLemmas.{IsHeaderRight, data_right, data_wrong, sizes, MarkedFile, held, marked_file}
use Rattle.fv_base.specs.declared.fault.FaultKind.TheVariants as kinds
use Rattle.fv_file.specs.inner.CellVerdicts as sorts
use Rattle.fv_base.specs.inner.Verdicts.{first_fault}
use Rattle.std.proofs.lemmas.Bool.{not-false}
use Rattle.fv_file.proofs.SortLemmas.{sorted}
use Rattle.fv_file.proofs.CellVerdictLemmas.{verdict_fails, verdict_holds, no_bits}
use Rattle.fv_file.proofs.ErasedByteLemmas.{all_at}

-- ---- 1. the fault Fixed

-- the fault Fixed is the fault of a file that is valid by its state
pub record FixedThere (s : FileSystem) (p : Polarity) (at : ℕ) (r : List ℕ) (f : Fault) : Type 0 where
  pub long : 24 ≤ length r
  pub used : not (bits_of p (state_at r) == 0) ≡ true
  pub state : FileState
  pub shown : state_of p (state_at r) ≡ Some state
  pub sort : sort_of state ≡ sorts.Valid
  pub file : MarkedFile s state at r f

pub fixed_there : (s : FileSystem) (p : Polarity) (at : ℕ) (r : List ℕ) (f : Fault) → cell_verdict s p at r ≡ Err f → f.kind ≡ kinds.Fixed
    → FixedThere s p at r f
fixed_there s p at r f is kind =
    let used : Bool = not (bits_of p (state_at r) == 0) in
    let front = held (nat_le 24 (length r) && used) (stray p at r) _ f (verdict_fails s p at r f is) (λ k. cc) in
    let both = and_split (nat_le 24 (length r)) used front.0 in
    in_state (leb-true 24 (length r) both.0) both.1 (state_of p (state_at r)) refl front.1
  where
    in_sort : (k : StateSort) (alive : Bool) → first_fault (sort_checks k s alive at r) ≡ Some f → first_fault (file_checks s alive at r) ≡ Some f
    in_sort sorts.Erased alive v = cc
    in_sort sorts.Unfinished alive v = let no = held _ (outer_fault kinds.FileSize (at + 20)) None f v (λ k. cc) in cc (no.1)
    in_sort sorts.Dead alive v = v
    in_sort sorts.Valid alive v = v

    in_state : 24 ≤ length r → not (bits_of p (state_at r) == 0) ≡ true → (o : Option FileState) → state_of p (state_at r) ≡ o
        → first_fault (state_checks o s at r) ≡ Some f → FixedThere s p at r f
    in_state long used None shown v = let no = held false (outer_fault kinds.FileState (at + 23)) None f v (λ k. cc) in cc (no.0)
    in_state long used (Some st) shown v =
        let file = marked_file s st at r f (in_sort (sort_of st) (is_alive st) (rw (sorted st).checks at v)) kind in
        let alive : is_alive st ≡ true = not-false _ (or_parts _ _ file.checked).0 in
        record { long = long; used = used; state = st; shown = shown; sort = (sorted st).valid alive; file = file }

-- such a file shows that it is held, and no cell that is read does
pub there_held : (s : FileSystem) (p : Polarity) (at : ℕ) (r : List ℕ) (f : Fault) → FixedThere s p at r f → is_held p r ≡ true
there_held s p at r f there = rw (there.shown, there.file.checked) there.file.fixed

pub cell_moves : (s : FileSystem) (p : Polarity) (at : ℕ) (r : List ℕ) (c : CellForm) → cell_verdict s p at r ≡ Ok c → is_held p r ≡ false
cell_moves s p at r c is = moved (state_of p (state_at r)) (verdict_holds s p at r c is).1 where
  moved : (o : Option FileState) → AllHold (state_checks o s at r)
      → (not (skips_data (is_valid_state o) r) && is_fixed (attributes_at r)) ≡ false
  moved o holds = grind (arith, common_steps)

-- the attributes of a fixed file are at least 4
pub fixed_least : (a : ℕ) → is_fixed a ≡ true → 4 ≤ a
fixed_least a h = grind (arith, nat_tests)

-- ---- 2. the bytes

pub length-unmarked : (p : ℕ) (b : List ℕ) → length (unmarked p b) ≡ length b
length-unmarked p b = simp length-set

pub drop-unmarked : (at : ℕ) (b : List ℕ) → drop at (unmarked at b) ≡ unmarked 0 (drop at b)
drop-unmarked at b = grind (arith, common_steps, get_or-drop, drop-set-add)

-- after a byte of a field was set, the sum of the field is the old sum, without the old byte and with the new one
sum-field_set : (i n k : ℕ) (l : List ℕ) (v : ℕ) → k < n → i + n ≤ length l
    → sum (field i n (slice_set l (i + k) v)) + slice_index l (i + k) ≡ sum (field i n l) + v
sum-field_set i n k l v small within =
    let byte : slice_index (field i n l) k ≡ slice_index l (i + k) = get_or-take n (drop i l) k 0 small ∙ get_or-drop i l k 0 in
    let long : length (field i n l) ≡ n = length-take-le n (drop i l) (omega (arith, within, length-drop i l)) in
    rw (drop-set-add i l k v, take-set-lt n (drop i l) k v small, ← byte) (sum_by-set (λ (x : ℕ). x) (field i n l) k v 0 (omega (arith, long, small)))

-- removing the mark does not change the bytes after the attributes
pub behind_mark : (n : ℕ) (r : List ℕ) → 19 < n → drop n (unmarked 0 r) ≡ drop n r
behind_mark n r l = drop-set-lt n (slice_set r 16 ((slice_index r 16 + 4) % 256)) 19 (slice_index r 19 - 4) l
    ∙ drop-set-lt n r 16 ((slice_index r 16 + 4) % 256) (omega (arith, l))

-- attributes that are less by 4 have the same bit 0x01 and the same bit for the file checksum, and do not say that the
-- file is fixed
even_less : (a : ℕ) → 4 ≤ a → (a - 4) % 2 ≡ a % 2
even_less a l = omega (arith, l)

summed_less : (a : ℕ) → is_fixed a ≡ true → is_summed (a - 4) ≡ is_summed a
summed_less a h = grind (arith, nat_tests)

not_fixed_less : (a : ℕ) → is_fixed a ≡ true → is_fixed (a - 4) ≡ false
not_fixed_less a h = grind (arith, nat_tests)

module _ (r : List ℕ) (long : 24 ≤ length r) (fixed : is_fixed (attributes_at r) ≡ true) where
  abbrev pub value : ℕ
  value = (slice_index r 16 + 4) % 256

  pub least : 4 ≤ slice_index r 19
  least = fixed_least (slice_index r 19) fixed

  pub other : (i : ℕ) → i ≢ 16 → i ≢ 19 → slice_index (unmarked 0 r) i ≡ slice_index r i
  other i n m = get_or-set_other (slice_set r 16 value) 19 i (slice_index r 19 - 4) 0 m ∙ get_or-set_other r 16 i value 0 n

  pub attributes : attributes_at (unmarked 0 r) ≡ slice_index r 19 - 4
  attributes = get_or-set_same (slice_set r 16 value) 19 (slice_index r 19 - 4) 0 (omega (arith, long, length-set r 16 value))

  pub header_sum : slice_index (unmarked 0 r) 16 ≡ value
  header_sum = get_or-set_other (slice_set r 16 value) 19 16 (slice_index r 19 - 4) 0 (λ e. omega (arith, e))
      ∙ get_or-set_same r 16 value 0 (omega (arith, long))

  large : is_large (attributes_at (unmarked 0 r)) ≡ is_large (attributes_at r)
  large = ap is_large attributes ∙ ap (λ (n : ℕ). n == 1) (even_less (slice_index r 19) least)

  length_same : length (unmarked 0 r) ≡ length r
  length_same = length-unmarked 0 r

  front_sum : sum (take 17 (unmarked 0 r)) + slice_index r 16 ≡ sum (take 17 r) + value
  front_sum =
      rw (take-set-le 17 (slice_set r 16 value) 19 (slice_index r 19 - 4) (omega arith))
      (sum-field_set 0 17 16 r value (omega arith) (omega (arith, long)))

  middle_sum : sum (field 18 5 (unmarked 0 r)) + slice_index r 19 ≡ sum (field 18 5 r) + (slice_index r 19 - 4)
  middle_sum = rw (get_or-set_other r 16 19 value 0 (λ e. omega (arith, e)), drop-set-lt 18 r 16 value (omega arith)) at
      (sum-field_set 18 5 1 (slice_set r 16 value) (slice_index r 19 - 4) (omega arith) (omega (arith, long, length-set r 16 value)))

  -- ---- 3. the checks of the header, and of the data

  size_kept : (t : Bool) → file_size_in t (unmarked 0 r) ≡ file_size_in t r
  size_kept false = ap (λ (l : List ℕ). le (take 3 l)) (behind_mark 20 r (omega arith))
  size_kept true = ap (λ (l : List ℕ). le (take 8 l)) (behind_mark 24 r (omega arith))

  size_same : file_size_at (unmarked 0 r) ≡ file_size_at r
  size_same = ap (λ (t : Bool). file_size_in t (unmarked 0 r)) large ∙ size_kept (is_large (attributes_at r))

  -- the fields are the same, except for the header checksum and the attributes
  name_same : take 16 (unmarked 0 r) ≡ take 16 r
  name_same = take-set-le 16 (slice_set r 16 value) 19 (slice_index r 19 - 4) (omega arith) ∙ take-set-le 16 r 16 value (omega arith)

  pub fields_kept : (state : FileState) → head_in state (unmarked 0 r) ≡ but_for_mark (head_in state r)
  fields_kept state = rw (
    name_same,
    header_sum,
    other 17 (λ e. omega (arith, e)) (λ e. omega (arith, e)),
    other 18 (λ e. omega (arith, e)) (λ e. omega (arith, e)),
    large,
    size_kept (is_large (attributes_at r)),
    attributes,
  ) refl

  -- the header sum of 24 + n bytes is the same: n is 0 for a short header, and 8 for a large one
  around_sum : (n : ℕ) → header_sum_of (take (24 + n) (unmarked 0 r)) ≡ header_sum_of (take (24 + n) r)
  around_sum n =
      let part : (l : List ℕ) → header_sum_of (take (24 + n) l) ≡ (sum (take 17 l) + sum (field 18 5 l) + sum (take n (drop 24 l))) % 256 =
      λ l. rw (take-take_le 17 (24 + n) l (omega arith), field-take 18 5 (24 + n) l (omega arith), drop-take 24 n l) refl in
      part (unmarked 0 r) ∙ omega (arith, front_sum, middle_sum, least, ap (λ (l : List ℕ). sum (take n l)) (behind_mark 24 r (omega arith))) ∙ sym (part r)

  sum_kept : (t : Bool) → header_sum_of (take (file_header_len t) (unmarked 0 r)) ≡ header_sum_of (take (file_header_len t) r)
  sum_kept false = around_sum 0
  sum_kept true = around_sum 8

  payload_kept : (t : Bool) (n : ℕ) → take n (drop (file_header_len t) (unmarked 0 r)) ≡ take n (drop (file_header_len t) r)
  payload_kept t n = ap (take n) (behind_mark (file_header_len t) r (omega (arith, header_least t)))

  pub payload_same : payload_at (unmarked 0 r) ≡ payload_at r
  payload_same = grind (arith, common_steps, size_same, large, payload_kept)

  pub right_still : (s : FileSystem) → IsHeaderRight s r → IsHeaderRight s (unmarked 0 r)
  right_still s h = record {
    form = ap (λ (t : Bool). not t || allows_large s) large ∙ h.form;
    whole = rw (large, length_same) h.whole;
    sum = ap (λ (t : Bool). header_sum_of (take (file_header_len t) (unmarked 0 r)) == 0) large ∙ ap (λ (n : ℕ). n == 0) (sum_kept _) ∙ h.sum;
    size = rw (large, size_kept (is_large (attributes_at r)), length_same, size_kept false) h.size;
  }

  skipped_same : (alive : Bool) → skips_data alive (unmarked 0 r) ≡ skips_data alive r
  skipped_same alive = ap (λ (n : ℕ). not alive || (n == pad_kind)) (other 18 (λ e. omega (arith, e)) (λ e. omega (arith, e)))

  pub file_sum_same : has_file_sum (unmarked 0 r) ≡ has_file_sum r
  file_sum_same = grind (arith, common_steps, payload_same, other, attributes, summed_less)

  pub state_same : state_at (unmarked 0 r) ≡ state_at r
  state_same = other 23 (λ e. omega (arith, e)) (λ e. omega (arith, e))

  pub moves : not (is_fixed (attributes_at (unmarked 0 r))) ≡ true
  moves = ap (λ (a : ℕ). not (is_fixed a)) attributes ∙ ap not (not_fixed_less (slice_index r 19) fixed)

-- ---- 4. the file without its mark

-- for the state of a valid file, the verdict on the cell follows from the verdict on the file
valid_verdict : (s : FileSystem) (p : Polarity) (st : FileState) (at : ℕ) (r : List ℕ) → 24 ≤ length r → state_of p (state_at r) ≡ Some st
    → sort_of st ≡ sorts.Valid → cell_verdict s p at r ≡ cell_with sorts.Valid at r (file_verdict s st at r)
valid_verdict s p st at r long state sort = grind (arith, common_steps, ltb-true)

-- the file without its mark, if its fault is Fixed
module _ (s : FileSystem) (p : Polarity) (at : ℕ) (r : List ℕ) (f : Fault) (there : FixedThere s p at r f) where
  right : IsHeaderRight s (unmarked 0 r)
  right = right_still r there.long there.file.fixed s there.file.right

  checked : skips_data (is_alive there.state) (unmarked 0 r) ≡ false
  checked = skipped_same r there.long there.file.fixed (is_alive there.state) ∙ there.file.checked

  verdict : cell_verdict s p at (unmarked 0 r) ≡ cell_with sorts.Valid at (unmarked 0 r) (file_verdict s there.state at (unmarked 0 r))
  verdict = grind (arith, common_steps, valid_verdict, length-unmarked, state_same)

  -- without the mark, not all bytes are erased, because the State byte is the same
  pub used_without : AllAre (erased_byte p) (unmarked 0 r) → ⊥
  used_without all =
      let erased = all_at (erased_byte p) (unmarked 0 r) 23 all (omega (arith, length-unmarked 0 r, there.long)) in
      cc (there.used, eq-eqb _ 0 (no_bits p (state_at r) (sym (state_same r there.long there.file.fixed) ∙ erased)))

  -- without the mark, the file is not fixed, so the fault is not Fixed
  pub not_fixed_again : (g : Fault) → cell_verdict s p at (unmarked 0 r) ≡ Err g → g.kind ≢ kinds.Fixed
  not_fixed_again g is kind = cc ((fixed_there s p at (unmarked 0 r) g is kind).file.fixed, moves r there.long there.file.fixed)

  -- the size covers the header, and the file lies within the bytes
  pub size_within : (file_header_len_at r ≤ file_size_at r) × (file_size_at r ≤ length r)
  size_within = let size = sizes _ _ _ _ there.file.right.size in (size.0, size.1)

  -- if its file checksum is wrong, its fault without the mark is FileSum
  pub wrong_without : has_file_sum r ≡ false → cell_verdict s p at (unmarked 0 r) ≡ Err (outer_fault kinds.FileSum (at + 17))
  wrong_without wrong = grind (arith, common_steps, verdict, data_wrong, right, checked, moves, file_sum_same)

  -- if its file checksum is right, the file without its mark is a cell
  pub cell_without : has_file_sum r ≡ true
      → (c : CellForm) × (cell_verdict s p at (unmarked 0 r) ≡ Ok c) × (cell_len c ≡ up_to_8 (file_size_at r)) × (19 < up_to_8 (file_size_at r))
  cell_without sound = grind (arith, common_steps, verdict, data_right, right, checked, moves, file_sum_same, size_same, size_within)
