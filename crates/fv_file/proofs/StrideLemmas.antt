-- The distance from the header of a cell to the next header is the length of the header if the cell is a stub, and
-- otherwise the size of the file, rounded up to 8. The steps:
-- 1. The next header begins at the end of a file (`file_stride`) or of a stub (`stub_stride`), and so at the end of
--    each cell that is not free (`cell_stride`, `stride_here`).
-- 2. So one step is one cell (`one_less`), and the count goes up by one (`one_counted`).
-- 3. At the end one free cell is left if any bytes are left (`free_left`), so all cells are counted (`all_counted`).
use Rattle.std.proofs.Common.{◌≡◌, ◌≤◌, ◌<◌, ℕ, ◌+◌, [], ◌∷◌, ◌++◌, ◌≢◌, List, length, drop, inl, inr, refl, sym, ap, subst, arith, Bool, true}
use Rattle.fv_base.proofs.Laws.{false, length-append, append-nil, slice_index, Some, eqb-true, drop_at, eqb-false, erased_byte, up_to_8, common_steps}
use Rattle.fv_base.specs.declared.flash.FileSystem.{FileSystem}
use Rattle.fv_base.specs.declared.flash.Polarity.{Polarity}
use Rattle.fv_file.specs.Words.{CellForm, Valid, Pad, Dead, Stub, Free, is_free, IsFilled, IsCell, Tiles, is_large, file_header_len_at, file_size_at}
use Rattle.fv_file.specs.Words.{file_header_len, StateOf, state_of}
use Rattle.fv_file.specs.declared.head.FileHead.{FileHead}
use Rattle.fv_file.specs.declared.state.FileState.{FileState}
use Rattle.fv_file.specs.inner.CellVerdicts.{is_unfinished}
use Rattle.fv_file.proofs.CellPartLemmas.{file_made_up, filled_span, not_empty, free_all}
use Rattle.fv_file.proofs.CellReadLemmas.{cell_reads}
use Rattle.fv_file.proofs.CellVerdictLemmas.{read_used}
use Rattle.fv_file.proofs.ErasedByteLemmas.{all_at}
use Rattle.fv_file.proofs.FileLemmas.{header_least, front_byte, filled_read}
use Rattle.fv_file.proofs.SortLemmas.{dead_state, sorted}
use Rattle.fv_file.proofs.TilingLemmas.{no_rest}
use Rattle.fv_file.specs.declared.state.FileState.TheVariants as states

-- the distance from the header at the start of r to the next header; the first argument says whether the header at the
-- start of r is the header of a stub
abbrev pub stride_by : Bool → List ℕ → ℕ
stride_by true r = file_header_len_at r
stride_by false r = up_to_8 (file_size_at r)

-- the next header begins n bytes after this one
pub record Stride (polarity : Polarity) (r : List ℕ) (n : ℕ) : Type 0 where
  pub header : file_header_len_at r ≤ n
  pub within : n ≤ length r
  pub is : stride_by (is_unfinished (state_of polarity (slice_index r 23))) r ≡ n

file_stride : (s : FileSystem) (p : Polarity) (head : FileHead) (payload u w : List ℕ) → IsFilled s p head payload u
    → is_unfinished (Some head.state) ≡ false → Stride p (u ++ w) (length u)
file_stride s p head payload u w filled finished =
    let reads = filled_read s p head payload u w filled in
    let header : file_header_len_at (u ++ w) ≡ head.header_len = ap (λ (h : FileHead). h.header_len) reads.fields in
    let size : file_size_at (u ++ w) ≡ head.size = ap (λ (h : FileHead). h.size) reads.fields in
    let span : up_to_8 head.size ≡ length u = filled_span s p head payload u filled in
    record {
      header = omega (arith, header, file_made_up s p head payload u filled, span);
      within = omega (arith, length-append u w);
      is = rw (reads.state, finished, size) span;
    }

stub_stride : (p : Polarity) (u w : List ℕ) (st : FileState) → is_unfinished (Some st) ≡ true
    → StateOf (slice_index u 23) p st → length u ≡ file_header_len (is_large (slice_index u 19)) → Stride p (u ++ w) (length u)
stub_stride p u w st unfinished state len = grind (arith, common_steps, header_least, front_byte, length-append)

-- if a cell that is not free begins the bytes, the next header begins at its end
cell_stride : (s : FileSystem) (p : Polarity) (c : CellForm) (u w : List ℕ) → IsCell s p c u → is_free c ≡ false
    → Stride p (u ++ w) (length u)
cell_stride s p (Valid at head payload) u w is f = file_stride s p head payload u w is.0 ((sorted head.state).finished is.1)
cell_stride s p (Pad at head payload) u w is f = file_stride s p head payload u w is.0 ((sorted head.state).finished is.1)
cell_stride s p (Dead at len st) u w (head, payload, filled, is, state, long) f =
    file_stride s p head payload u w filled (dead_state head.state st is state).2
cell_stride s p (Stub at len) u w (inl state, whole, long) f = stub_stride p u w states.Construction refl state whole
cell_stride s p (Stub at len) u w (inr state, whole, long) f = stub_stride p u w states.HeaderInvalid refl state whole
cell_stride s p (Free at len) u w is f = cc

-- the same for bytes r that begin with the cell
pub stride_here : (s : FileSystem) (p : Polarity) (c : CellForm) (r u w : List ℕ) → r ≡ u ++ w → IsCell s p c u → is_free c ≡ false
    → Stride p r (length u)
stride_here s p c r u w e is f = subst (λ (x : List ℕ). Stride p x (length u)) (sym e) (cell_stride s p c u w is f)

-- ---- the count of the cells

-- the number of cells so far plus the number of cells of the remaining bytes is the number of all cells
abbrev pub Counted : Polarity → ℕ → List ℕ → List ℕ → Type 0
Counted p count body rest = (s : FileSystem) (first : ℕ) (cs : List CellForm) → Tiles s p first cs body
    → (at : ℕ) × (ds : List CellForm) × Tiles s p at ds rest × (count + length ds ≡ length cs)

-- the State byte of the next header is not erased, so the cell there is not free, and the other cells tile the bytes
-- after it
one_less : (s : FileSystem) (p : Polarity) (at n : ℕ) (ds : List CellForm) (rest after : List ℕ) → Tiles s p at ds rest
    → 24 ≤ length rest → slice_index rest 23 ≢ erased_byte p
    → ((c : CellForm) (u w : List ℕ) → rest ≡ u ++ w → IsCell s p c u → is_free c ≡ false → n ≡ length u)
    → after ≡ drop n rest
    → (at' : ℕ) × (es : List CellForm) × Tiles s p at' es after × (length ds ≡ 1 + length es)
one_less s p at n [] rest after t long used stride behind = absurd (omega (arith, ap length t, long))
one_less s p at n (c ∷ cs) rest after (u, w, e, is, o, last, more) long used stride behind = go (is_free c) refl where
  go : (f : Bool) → is_free c ≡ f
      → (at' : ℕ) × (es : List CellForm) × Tiles s p at' es after × (length (c ∷ cs) ≡ 1 + length es)
  go false f =
      (at + length u, cs, rw (behind, e, drop_at u w n (sym (stride c u w e is f))) more, omega arith)
  go true f =
      let whole = rw (no_rest s p _ cs w (last f) more, append-nil) at e in
      absurd (used (rw whole (all_at _ u 23 (free_all s p c u is f).1 (omega (arith, ap length whole, long)))))

-- after a step of n bytes, one more cell is counted
pub one_counted : (p : Polarity) (count n : ℕ) (body rest after : List ℕ) → Counted p count body rest
    → 24 ≤ length rest → slice_index rest 23 ≢ erased_byte p
    → ((s : FileSystem) (c : CellForm) (u w : List ℕ) → rest ≡ u ++ w → IsCell s p c u → is_free c ≡ false → n ≡ length u)
    → after ≡ drop n rest → Counted p (count + 1) body after
one_counted p count n body rest after counted long used stride behind = λ s first cs t.
    let k = counted s first cs t in
    let m = one_less s p k.0 n k.1 rest after k.2 long used (stride s) behind in
    (m.0, m.1, m.2, omega (arith, m.3, k.3))

-- if no bytes are left, no cell is left; if any bytes are left, and no header is there, one free cell is left
free_left : (s : FileSystem) (p : Polarity) (at : ℕ) (ds : List CellForm) (rest : List ℕ) → Tiles s p at ds rest
    → (24 ≤ length rest → slice_index rest 23 ≡ erased_byte p)
    → (length rest ≡ 0 → length ds ≡ 0) × (0 < length rest → length ds ≡ 1)
free_left s p at [] rest t ends = (λ e. refl, λ l. absurd (omega (arith, ap length t, l)))
free_left s p at (c ∷ cs) rest (u, w, e, is, o, last, more) ends =
    (λ z. absurd (omega (arith, z, ap length e, length-append u w, not_empty s p c u is)), λ l. go (is_free c) refl)
  where
    go : (f : Bool) → is_free c ≡ f → length (c ∷ cs) ≡ 1
    go true f = ap (λ (x : List CellForm). length (c ∷ x)) (last f)
    go false f =
        let used = read_used s p _ _ c (cell_reads s p c u w is f) in
        absurd (used.1 ((rw e at ends) used.0))

-- the count, with one more if any bytes are left, is the number of all cells
pub all_counted : (p : Polarity) (count result : ℕ) (body rest : List ℕ) → Counted p count body rest
    → (24 ≤ length rest → slice_index rest 23 ≡ erased_byte p)
    → (length rest ≡ 0 → result ≡ count) → (0 < length rest → result ≡ count + 1)
    → (s : FileSystem) (first : ℕ) (cs : List CellForm) → Tiles s p first cs body → result ≡ length cs
all_counted p count result body rest counted ends none some s first cs t = grind (arith, common_steps, free_left, eqb-true, eqb-false)
