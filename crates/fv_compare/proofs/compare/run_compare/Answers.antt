use Rattle.std.proofs.Common.{◌≡◌, ◌≢◌, ℕ, List, inl, inr, Bool, arith, Option, Result, IfErr}
use Rattle.fv_base.proofs.Laws.{err_is, common_steps, Keeps-refl, IfOk-weaker, IfErr-weaker}
use Rattle.fv_compare.specs.declared.side.Side.{Side}
use Rattle.fv_base.specs.Words.{ReadStops}
use Rattle.fv_base.specs.declared.fault.Fault.{Fault}
use Rattle.fv_tree.specs.Words.{Meaning}
use Rattle.fv_compare.specs.Words.{ComparisonStops, ReadsVolume, SideStopsRun}
use Rattle.fv_compare.specs.declared.side.Side.TheVariants as sides
use Rattle.fv_base.specs.declared.fault.FaultKind.TheVariants as kinds
use Rattle.fv_compare.proofs.compare.run_compare.Goals as goal

-- ---- after both inputs are read

-- if the comparison of two volumes that were read stops, the run stops on the same side with the same fault
comparison_stops : (side : Side) (f : Fault) (m k : Meaning) (unread left unread' left' held holds : Option (List ℕ))
    → ReadsVolume unread left m → ReadsVolume unread' left' k → ComparisonStops side m k held holds f
    → SideStopsRun side unread left unread' left' held holds f
comparison_stops sides.First f m k unread left unread' left' held holds p q (keeps, want, differ) =
    (keeps, inr (m, k, p, q, want, differ))
comparison_stops sides.Second f m k unread left unread' left' held holds p q stops = absurd stops
comparison_stops sides.Output f m k unread left unread' left' held holds p q stops = (m, k, p, q, stops)

-- ---- the kinds of faults

-- a fault of reading an input is not a fault of the writer
unread_kind : (unread left : Option (List ℕ)) (f : Fault) → ReadStops unread left f → f.kind ≢ kinds.WriteFault
unread_kind unread left f stops is = grind (arith, common_steps)

-- a fault of the comparison is not a fault of a reader
not_read : (side : Side) (f : Fault) (m k : Meaning) (held holds : Option (List ℕ)) → ComparisonStops side m k held holds f
    → f.kind ≢ kinds.ReadFault
not_read sides.First f m k held holds (keeps, want, differ) is = cc
not_read sides.Second f m k held holds stops is = absurd stops
not_read sides.Output f m k held holds stops is = cc (stops.kind)

-- so a clause about faults of a reader is true after a fault of the comparison
never_read : (Q : Side → Type 0) (P : Type 0) (r : Result Bool (Side × Fault)) (m k : Meaning) (held holds : Option (List ℕ))
    → IfErr r (λ e. ComparisonStops e.0 m k held holds e.1) → IfErr r (λ e. Q e.0 → e.1.kind ≡ kinds.ReadFault → P)
never_read Q P r m k held holds stops = grind (arith, common_steps, not_read)

-- ---- the first input is not read, or is not a volume

pub returns-in_err-input-clause-err : goal.returns-in_err-input-clause-err
returns-in_err-input-clause-err g c =
    let (is, stops) = c.in_err-input.ensures.err in
    rw (err_is c.from_residual.ensures.1, is) (Keeps-refl _, inl (Keeps-refl _, inl stops))

pub returns-in_err-input-clause-first_erred : goal.returns-in_err-input-clause-first_erred
returns-in_err-input-clause-first_erred g c =
    λ off. rw (err_is c.from_residual.ensures.1) (λ side kind. c.in_err-input.ensures.erred off kind)

pub returns-in_err-input-clause-second_erred : goal.returns-in_err-input-clause-second_erred
returns-in_err-input-clause-second_erred g c =
    λ off. rw (err_is c.from_residual.ensures.1) (λ side kind. cc (c.in_err-input.ensures.err.0))

pub returns-in_err-input-clause-writer_erred : goal.returns-in_err-input-clause-writer_erred
returns-in_err-input-clause-writer_erred g c =
    rw (err_is c.from_residual.ensures.1) (λ kind. absurd (unread_kind _ _ _ c.in_err-input.ensures.err.1 kind))

pub returns-in_err-view-clause-err : goal.returns-in_err-view-clause-err
returns-in_err-view-clause-err g c =
    let (is, stops) = rw c.deref.ensures.value at c.in_err-view.ensures.err in
    rw (err_is c.from_residual-in_err-view.ensures.1, is) (Keeps-refl _, inl (Keeps-refl _, inr (_, c.in_ok-input.ensures.ok, stops)))

-- ---- the second input is not read, or is not a volume

pub returns-in_err-other_input-clause-err : goal.returns-in_err-other_input-clause-err
returns-in_err-other_input-clause-err g c =
    let (is, stops) = c.in_err-other_input.ensures.err in
    let accepted = rw c.deref.ensures.value at c.in_ok-view.ensures.ok in
    rw (err_is c.from_residual-in_err-other_input.ensures.1, is)
    (Keeps-refl _, (_, (_, c.in_ok-input.ensures.ok, accepted)), inl stops)

pub returns-in_err-other_input-clause-first_erred : goal.returns-in_err-other_input-clause-first_erred
returns-in_err-other_input-clause-first_erred g c =
    λ off. rw (err_is c.from_residual-in_err-other_input.ensures.1) (λ side kind. cc (c.in_err-other_input.ensures.err.0))

pub returns-in_err-other_input-clause-second_erred : goal.returns-in_err-other_input-clause-second_erred
returns-in_err-other_input-clause-second_erred g c =
    λ off. rw (err_is c.from_residual-in_err-other_input.ensures.1) (λ side kind. c.in_err-other_input.ensures.erred off kind)

pub returns-in_err-other_input-clause-writer_erred : goal.returns-in_err-other_input-clause-writer_erred
returns-in_err-other_input-clause-writer_erred g c =
    rw (err_is c.from_residual-in_err-other_input.ensures.1) (λ kind. absurd (unread_kind _ _ _ c.in_err-other_input.ensures.err.1 kind))

pub returns-in_err-other-clause-err : goal.returns-in_err-other-clause-err
returns-in_err-other-clause-err g c =
    let (is, stops) = rw c.deref-2.ensures.value at c.in_err-other.ensures.err in
    let accepted = rw c.deref.ensures.value at c.in_ok-view.ensures.ok in
    rw (err_is c.from_residual-in_err-other.ensures.1, is)
    (Keeps-refl _, (_, (_, c.in_ok-input.ensures.ok, accepted)), inr (_, c.in_ok-other_input.ensures.ok, stops))

-- ---- both inputs are compared

pub returns-clause-ok : goal.returns-clause-ok
returns-clause-ok g c =
    let accepted = rw c.deref.ensures.value at c.in_ok-view.ensures.ok in
    let other = rw c.deref-2.ensures.value at c.in_ok-other.ensures.ok in
    IfOk-weaker c.write_comparison.result _ _ (λ same is.
    (_, _, (_, c.in_ok-input.ensures.ok, accepted), (_, c.in_ok-other_input.ensures.ok, other), is)) c.write_comparison.ensures.ok

pub returns-clause-err : goal.returns-clause-err
returns-clause-err g c =
    let accepted = rw c.deref.ensures.value at c.in_ok-view.ensures.ok in
    let other = rw c.deref-2.ensures.value at c.in_ok-other.ensures.ok in
    IfErr-weaker c.write_comparison.result _ _ (λ e is. comparison_stops e.0 e.1 _ _ _ _ _ _ _ _
    (_, c.in_ok-input.ensures.ok, accepted) (_, c.in_ok-other_input.ensures.ok, other) is) c.write_comparison.ensures.err

pub returns-clause-first_erred : goal.returns-clause-first_erred
returns-clause-first_erred g c =
    λ off. never_read (λ (s : Side). s ≡ sides.First) _ c.write_comparison.result _ _ _ _ c.write_comparison.ensures.err

pub returns-clause-second_erred : goal.returns-clause-second_erred
returns-clause-second_erred g c =
    λ off. never_read (λ (s : Side). s ≡ sides.Second) _ c.write_comparison.result _ _ _ _ c.write_comparison.ensures.err
