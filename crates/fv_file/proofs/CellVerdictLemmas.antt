-- The cell that is read at a place is the only cell that begins there. The verdict on the bytes is the verdict of the
-- checks of a cell. So a cell that is read begins at its place, and a fault is the fault of the first check that does
-- not hold. Conversely, every cell that begins at a place is read. So two cells at one place are equal, and if a check
-- does not hold, no cell begins there.
use Rattle.std.proofs.Common.{◌≡◌, ◌≤◌, ℕ, ◌%◌, [], ◌++◌, ◌==◌, ◌≢◌, ◌⊎◌, leb-true}
use Rattle.fv_base.proofs.Laws.{inl, inr, List, length, refl, sym, ap, ◌∙◌, subst, arith, Bool, true, false, append-nil, nat_lt, slice_index, Option}
use Rattle.fv_base.proofs.Laws.{None, Some, Ok, Err, le-leb, ltb-true, ltb-false, eqb-true, eq-eqb, IsFirstFault, Which, Fails, AllAre, AllHold, erased_byte}
use Rattle.fv_base.proofs.Laws.{all_hold, and_split, first_is, none_fails, not_at_most, verdict_err, verdict_ok, common_steps}
use Rattle.fv_base.specs.inner.Verdicts.{first_fault, verdict_by}
use Rattle.fv_base.specs.declared.fault.Fault.{Fault}
use Rattle.fv_base.specs.declared.flash.FileSystem.{FileSystem}
use Rattle.fv_base.specs.declared.flash.Polarity.{Polarity}
use Rattle.fv_base.specs.declared.flash.Polarity.TheVariants.{Ones, Zeros}
use Rattle.fv_file.specs.Words.{CellForm, Free, offset_of, is_free, IsCell, cell_len, payload_at, file_checks, state_checks, cell_checks, head_in}
use Rattle.fv_file.specs.Words.{bits_of, state_of, is_alive}
use Rattle.fv_file.specs.declared.state.FileState.{FileState}
use Rattle.fv_file.specs.inner.CellVerdicts.{file_verdict, cell_in, cell_of, cell_with, state_verdict, cell_verdict, StateSort}
use Rattle.fv_file.specs.inner.CellVerdicts as sorts
use Rattle.fv_file.specs.declared.state.FileState.TheVariants as states
use Rattle.fv_file.proofs.CellFoundLemmas.{CellStandsAt, cell_stands}
use Rattle.fv_file.proofs.CellPartLemmas.{cell_span, free_all}
use Rattle.fv_file.proofs.CellReadLemmas.{CellIsRead, cell_reads}
use Rattle.fv_file.proofs.ErasedByteLemmas.{all_at}
use Rattle.fv_file.proofs.SortLemmas.{free_bits, bits_free}
use Rattle.fv_file.proofs.TilingLemmas.{OneCell}

-- ---- the verdict on the bytes at a place

-- for a file, the verdict is the verdict of the checks of a file
file_is : (s : FileSystem) (st : FileState) (k : StateSort) (at : ℕ) (r : List ℕ)
    → cell_with k at r (file_verdict s st at r)
    ≡ verdict_by (first_fault (file_checks s (is_alive st) at r)) (cell_of k at (head_in st r) (payload_at r))
unfolding file_verdict
file_is s st k at r = go (first_fault (file_checks s (is_alive st) at r)) where
  go : (o : Option Fault) → cell_with k at r (verdict_by o (head_in st r)) ≡ verdict_by o (cell_of k at (head_in st r) (payload_at r))
  go None = refl
  go (Some f) = refl

-- for a State byte that does not show the state Free, the verdict is the verdict of the checks of the state
state_is : (s : FileSystem) (p : Polarity) (o : Option FileState) (at : ℕ) (r : List ℕ) → o ≢ Some states.Free
    → state_verdict o s p at r ≡ verdict_by (first_fault (state_checks o s at r)) (cell_in o at r)
state_is s p None at r used = refl
state_is s p (Some states.Free) at r used = absurd (used refl)
state_is s p (Some states.Construction) at r used = refl
state_is s p (Some states.HeaderInvalid) at r used = refl
state_is s p (Some states.HeaderValid) at r used = file_is s states.HeaderValid sorts.Dead at r
state_is s p (Some states.Deleted) at r used = file_is s states.Deleted sorts.Dead at r
state_is s p (Some states.DataValid) at r used = file_is s states.DataValid sorts.Valid at r
state_is s p (Some states.Marked) at r used = file_is s states.Marked sorts.Valid at r

-- for any bytes, the verdict is the verdict of the checks of a cell
verdict_is : (s : FileSystem) (p : Polarity) (at : ℕ) (r : List ℕ)
    → cell_verdict s p at r ≡ verdict_by (first_fault (cell_checks s p at r)) (cell_in (state_of p (slice_index r 23)) at r)
verdict_is s p at r = go (nat_lt (length r) 24) refl (bits_of p (slice_index r 23) == 0) refl where
  go : (t : Bool) → nat_lt (length r) 24 ≡ t → (z : Bool) → (bits_of p (slice_index r 23) == 0) ≡ z
      → cell_verdict s p at r ≡ verdict_by (first_fault (cell_checks s p at r)) (cell_in (state_of p (slice_index r 23)) at r)
  go true l z e = rw (l, not_at_most 24 (length r) (ltb-true (length r) 24 l)) refl
  go false l true e = rw (l, e, le-leb 24 (length r) (ltb-false (length r) 24 l), bits_free p (slice_index r 23) (eqb-true _ 0 e)) refl
  go false l false e =
      rw (l, e, le-leb 24 (length r) (ltb-false (length r) 24 l)) (state_is s p (state_of p (slice_index r 23)) at r
      (λ free. cc (e, eq-eqb _ 0 (free_bits p (slice_index r 23) free))))

-- so a cell that is read begins there, and a fault is the fault of the first check that does not hold
pub verdict_stands : (s : FileSystem) (p : Polarity) (at : ℕ) (r : List ℕ) (c : CellForm) → length r % 8 ≡ 0 → cell_verdict s p at r ≡ Ok c
    → CellStandsAt s p at c r
verdict_stands s p at r c in_eights is =
    let v = verdict_ok (first_fault (cell_checks s p at r)) (cell_in (state_of p (slice_index r 23)) at r) c (sym (verdict_is s p at r) ∙ is) in
    subst (λ (d : CellForm). CellStandsAt s p at d r) v.1 (cell_stands s p at r in_eights v.0)

pub verdict_holds : (s : FileSystem) (p : Polarity) (at : ℕ) (r : List ℕ) (c : CellForm) → cell_verdict s p at r ≡ Ok c
    → AllHold (cell_checks s p at r)
verdict_holds s p at r c is = all_hold (cell_checks s p at r) (verdict_ok _ _ c (sym (verdict_is s p at r) ∙ is)).0

pub verdict_fails : (s : FileSystem) (p : Polarity) (at : ℕ) (r : List ℕ) (f : Fault) → cell_verdict s p at r ≡ Err f
    → first_fault (cell_checks s p at r) ≡ Some f
verdict_fails s p at r f is = verdict_err (first_fault (cell_checks s p at r)) _ f (sym (verdict_is s p at r) ∙ is)

pub verdict_first : (s : FileSystem) (p : Polarity) (at : ℕ) (r : List ℕ) (f : Fault) → cell_verdict s p at r ≡ Err f
    → IsFirstFault (cell_checks s p at r) f
verdict_first s p at r f is = first_is (cell_checks s p at r) f (verdict_fails s p at r f is)

-- ---- one cell at a place

-- no bit of an erased byte was written
pub no_bits : (p : Polarity) (b : ℕ) → b ≡ erased_byte p → bits_of p b ≡ 0
no_bits Ones b e = rw e refl
no_bits Zeros b e = rw e refl

-- if a cell is read, there are at least the 24 bytes of a header, and the State byte is not erased
pub read_used : (s : FileSystem) (p : Polarity) (at : ℕ) (r : List ℕ) (c : CellForm) → CellIsRead s p at c r
    → (24 ≤ length r) × (slice_index r 23 ≢ erased_byte p)
read_used s p at r c is = grind (arith, common_steps, and_split, all_hold, leb-true, no_bits, eq-eqb)

-- a cell that begins the bytes is read, or it is free, and all bytes are erased
abbrev CellBegins : FileSystem → Polarity → ℕ → CellForm → List ℕ → Type 0
CellBegins s p at c r = CellIsRead s p at c r ⊎ (AllAre (erased_byte p) r × (c ≡ Free at (length r)))

begins : (s : FileSystem) (p : Polarity) (at : ℕ) (c : CellForm) (r u w : List ℕ) → IsCell s p c u → offset_of c ≡ at → r ≡ u ++ w
    → (is_free c ≡ true → w ≡ []) → CellBegins s p at c r
begins s p at c r u w is o e last = go (is_free c) refl where
  go : (f : Bool) → is_free c ≡ f → CellBegins s p at c r
  go false f = inl (rw (← o, e) (cell_reads s p c u w is f))
  go true f = let free = free_all s p c u is f in inr (rw (e, last f, append-nil) (free.1, rw (← o) free.0))

-- at most one cell begins the bytes
one_begun : (s : FileSystem) (p : Polarity) (at : ℕ) (c d : CellForm) (r : List ℕ) → CellBegins s p at c r → CellBegins s p at d r → c ≡ d
one_begun s p at c d r (inl a) (inl b) = sym a.read ∙ b.read
one_begun s p at c d r (inr a) (inr b) = a.1 ∙ sym b.1
one_begun s p at c d r (inl a) (inr b) = let used = read_used s p at r c a in absurd (used.1 (all_at _ r 23 b.0 (omega (arith, used.0))))
one_begun s p at c d r (inr a) (inl b) = let used = read_used s p at r d b in absurd (used.1 (all_at _ r 23 a.0 (omega (arith, used.0))))

pub one_cell : (s : FileSystem) (p : Polarity) → OneCell s p
one_cell s p c d u v w z is is' o last last' e =
    let same = one_begun s p _ c d (u ++ w) (begins s p _ c _ u w is o refl last) (begins s p _ d _ v z is' refl e last') in
    (same, sym (cell_span s p c u is) ∙ ap cell_len same ∙ cell_span s p d v is')

-- if a check fails, and not all bytes are erased, no cell begins there
pub no_cell : (which : Which) (s : FileSystem) (p : Polarity) (at : ℕ) (r : List ℕ) (f : Fault) (c : CellForm) (u w : List ℕ)
    → Fails which (cell_checks s p at r) f → (AllAre (erased_byte p) r → ⊥)
    → IsCell s p c u → offset_of c ≡ at → r ≡ u ++ w → (is_free c ≡ true → w ≡ []) → ⊥
no_cell which s p at r f c u w bad differs is o e last = elim (begins s p at c r u w is o e last) [
  | inl read ↦ none_fails which (cell_checks s p at r) f bad (all_hold (cell_checks s p at r) read.checked)
  | inr free ↦ differs free.0
]
