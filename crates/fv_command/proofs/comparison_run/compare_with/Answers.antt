use Rattle.std.proofs.Common.{◌≡◌, ◌≢◌, ◌⊎◌, ◌↔◌, Bool, true, false, refl, inl, inr}
use Rattle.fv_base.proofs.Laws.{err_is}
use Rattle.fv_tree.specs.Words.{Meaning}
use Rattle.fv_command.specs.inner.RunSteps.{verdict_of}
use Rattle.fv_command.specs.declared.status.Status.TheVariants.{Done, Different}
use Rattle.fv_command.proofs.comparison_run.compare_with.Goals as goal

-- the status of a comparison is Done if the volumes have the same meaning, and otherwise Different
verdict_is : (m k : Meaning) (same : Bool) → ((same ≡ true) ↔ (m ≡ k))
    → ((verdict_of same ≡ Done) × (m ≡ k)) ⊎ ((verdict_of same ≡ Different) × (m ≢ k))
verdict_is m k true is = inl (refl, is.0 refl)
verdict_is m k false is = inr (refl, λ e. cc (is.1 e))

pub returns-in_err-bytes : goal.returns-in_err-bytes
returns-in_err-bytes g c =
    let (is, stops) = c.in_err-bytes.ensures.err in
    λ place input first. rw (err_is c.from_residual.ensures.1, is) (((_, first), inl stops), refl)

pub returns-in_err-other : goal.returns-in_err-other
returns-in_err-other g c =
    let taken = rw c.deref.ensures.value at c.taken_at.ensures in
    let (is, stops) = c.in_err-other.ensures.err in
    λ place input first. rw (err_is c.from_residual-in_err-other.ensures.1, is)
    (((_, first), inr (_, (_, c.in_ok-bytes.ensures.ok, taken), stops)), refl)

pub returns-in-Ok : goal.returns-in-Ok
returns-in-Ok g c =
    let taken = rw c.deref.ensures.value at c.taken_at.ensures in
    let verdict = verdict_is _ _ _ c.in-Ok.ensures.same in
    λ place input first.
    (_, (_, _, first, (_, (_, c.in_ok-bytes.ensures.ok, taken), c.in_ok-other.ensures.ok), rw c.verdict.ensures verdict, refl), c.in-Ok.ensures.line)

pub returns : goal.returns
returns g c =
    let taken = rw c.deref.ensures.value at c.taken_at.ensures in
    let (want, differ) = c.in-Err.ensures.err in
    λ place input first.
    (inr (_, _, first, (_, (_, c.in_ok-bytes.ensures.ok, taken), c.in_ok-other.ensures.ok), want, differ), c.in-Err.ensures.untouched)
