-- If the bytes begin with a cell that is not free, every check of a cell holds, and this cell is read. The State byte
-- shows a state whose sort determines this kind of cell. The header of a file is read again from its bytes, and a
-- header under construction or an invalid header has the length of its form.
use Rattle.std.proofs.Common.{◌≡◌, ◌≤◌, ℕ, ◌++◌, ◌==◌, ◌≢◌, List, length, inl, inr, refl, sym, ◌∙◌, arith, Bool, false, length-append, eq-eqb, le-leb}
use Rattle.fv_base.proofs.Laws.{up_is_not_down, slice_index, None, Some, eqb-true, AllHold, common_steps, if_false, if_true, none_faulty, not_equal}
use Rattle.fv_base.specs.declared.flash.FileSystem.{FileSystem}
use Rattle.fv_base.specs.declared.flash.Polarity.{Polarity}
use Rattle.fv_base.specs.inner.Verdicts.{first_fault}
use Rattle.fv_file.specs.Words.{CellForm, Valid, Pad, Dead, Stub, Free, offset_of, is_free, IsFilled, IsCell, is_large, file_header_len_at}
use Rattle.fv_file.specs.Words.{payload_at, file_checks, cell_checks, file_header_len, head_in, pad_kind, StateOf, bits_of, state_of, is_alive}
use Rattle.fv_file.specs.declared.head.FileHead.{FileHead}
use Rattle.fv_file.specs.declared.state.FileState.{FileState}
use Rattle.fv_file.specs.inner.CellVerdicts.{cell_in, cell_of, StateSort, sort_of, sort_checks}
use Rattle.fv_file.specs.inner.CellVerdicts as sorts
use Rattle.fv_file.specs.declared.state.FileState.TheVariants as states
use Rattle.fv_file.proofs.CellPartLemmas.{filled_span}
use Rattle.fv_file.proofs.FileLemmas.{header_least, front_byte, HasContent, filled_read}
use Rattle.fv_file.proofs.SortLemmas.{dead_state, sorted, bits_free}

-- every check of a cell holds, and the cell that is read is c
pub record CellIsRead (system : FileSystem) (polarity : Polarity) (at : ℕ) (c : CellForm) (r : List ℕ) : Type 0 where
  pub checked : first_fault (cell_checks system polarity at r) ≡ None
  pub read : cell_in (state_of polarity (slice_index r 23)) at r ≡ c

-- if a State byte shows a state other than Free, a bit of the byte was written
not_erased : (p : Polarity) (b : ℕ) (st : FileState) → StateOf b p st → sort_of st ≢ sorts.Erased → (bits_of p b == 0) ≡ false
not_erased p b st state used = grind (arith, common_steps, eqb-true, bits_free)

-- if the State byte shows a state of this sort, and the checks for the sort hold, the cell is read
shown : (s : FileSystem) (p : Polarity) (at : ℕ) (c : CellForm) (r : List ℕ) (st : FileState) (k : StateSort) → 24 ≤ length r
    → StateOf (slice_index r 23) p st → sort_of st ≡ k → k ≢ sorts.Erased → AllHold (sort_checks k s (is_alive st) at r)
    → cell_of k at (head_in st r) (payload_at r) ≡ c → CellIsRead s p at c r
shown s p at c r st k long state sort used all form =
    let is : state_of p (slice_index r 23) ≡ Some st = state in
    record {
      checked = rw (le-leb 24 (length r) long, not_erased p (slice_index r 23) st state (λ z. used (sym sort ∙ z)), is, (sorted st).checks, sort)
          (none_faulty _ all);
      read = rw (is, sort) form;
    }

-- a file with its filler is read, if its state has one of the two sorts of files
filled_reads : (s : FileSystem) (p : Polarity) (at : ℕ) (c : CellForm) (head : FileHead) (payload u w : List ℕ) (k : StateSort)
    → IsFilled s p head payload u → sort_of head.state ≡ k → k ≢ sorts.Erased
    → ((alive : Bool) (r : List ℕ) → sort_checks k s alive at r ≡ file_checks s alive at r)
    → HasContent head payload → cell_of k at head payload ≡ c
    → CellIsRead s p at c (u ++ w)
filled_reads s p at c head payload u w k filled sort used checks content form =
    let reads = filled_read s p head payload u w filled in
    shown s p at c (u ++ w) head.state k reads.long reads.state sort used (rw checks (reads.checks at content))
    (rw (reads.fields, reads.payload_is) form)

-- a header under construction or an invalid header is read
stub_reads : (s : FileSystem) (p : Polarity) (at : ℕ) (u w : List ℕ) (st : FileState) → sort_of st ≡ sorts.Unfinished
    → StateOf (slice_index u 23) p st → length u ≡ file_header_len (is_large (slice_index u 19))
    → CellIsRead s p at (Stub at (length u)) (u ++ w)
stub_reads s p at u w st sort state len =
    let low : 24 ≤ length u = rw len (header_least _) in
    let n : file_header_len_at (u ++ w) ≡ length u = rw (front_byte 19 u w (omega (arith, low))) (sym len) in
    shown s p at _ (u ++ w) st sorts.Unfinished (omega (arith, low, length-append u w)) (rw (front_byte 23 u w (omega (arith, low))) state) sort
    (λ z. cc) (le-leb _ _ (omega (arith, n, length-append u w)), tt) (rw n)

-- if the bytes begin with a cell that is not free, this cell is read
pub cell_reads : (s : FileSystem) (p : Polarity) (c : CellForm) (u w : List ℕ) → IsCell s p c u → is_free c ≡ false
    → CellIsRead s p (offset_of c) c (u ++ w)
cell_reads s p (Valid at head payload) u w (filled, alive, sound) f =
    filled_reads s p at _ head payload u w sorts.Valid filled ((sorted head.state).valid alive) (λ z. cc) (λ alive r. refl)
    (λ a. inr sound) (if_false _ _ _ (not_equal head.kind pad_kind sound.kind))
cell_reads s p (Pad at head payload) u w (filled, alive, pad) f =
    filled_reads s p at _ head payload u w sorts.Valid filled ((sorted head.state).valid alive) (λ z. cc) (λ alive r. refl)
    (λ a. inl pad) (if_true _ _ _ (eq-eqb head.kind pad_kind pad))
cell_reads s p (Dead at len st) u w (head, payload, filled, is, state, long) f =
    let dead = dead_state head.state st is state in
    filled_reads s p at _ head payload u w sorts.Dead filled dead.0 (λ z. cc) (λ alive r. refl)
    (λ alive. absurd (up_is_not_down _ alive dead.1)) (rw (filled_span s p head payload u filled, is, long))
cell_reads s p (Stub at len) u w (inl is, whole, long) f = rw long (stub_reads s p at u w states.Construction refl is whole)
cell_reads s p (Stub at len) u w (inr is, whole, long) f = rw long (stub_reads s p at u w states.HeaderInvalid refl is whole)
cell_reads s p (Free at len) u w is f = cc
