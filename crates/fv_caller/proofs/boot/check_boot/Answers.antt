use Rattle.fv_base.proofs.Laws.{ap, inl, inr, err_is}
use Rattle.fv_caller.proofs.boot.check_boot.Goals as goal
use Rattle.fv_caller.specs.declared.fault.CallerFault.TheVariants as faults

pub returns-in_err-whole_volume-clause-none : goal.returns-in_err-whole_volume-clause-none
returns-in_err-whole_volume-clause-none c =
    rw (err_is c.from_residual.ensures.1) (λ other boot. elim c.in_err-whole_volume.ensures.rejected [
      | inl want ↦ absurd (other (inl (ap faults.Volume want)))
      | inr bad ↦ absurd (bad.none boot.read.0 boot.read.1)
    ])

pub returns-in_err-read_depex-clause-none : goal.returns-in_err-read_depex-clause-none
returns-in_err-read_depex-clause-none c =
    rw (err_is c.from_residual-in_err-read_depex.ensures.1)
    (λ other boot. c.in_err-read_depex.ensures.none (λ want. other (inr (inl (ap faults.Expression want))))
    boot.spelled.0 boot.spelled.1 boot.spelled.2)

pub returns-in_err-read_hobs-clause-none : goal.returns-in_err-read_hobs-clause-none
returns-in_err-read_hobs-clause-none c =
    rw (err_is c.from_residual-in_err-read_hobs.ensures.1)
    (λ other boot. c.in_err-read_hobs.ensures.none (λ want. other (inr (inr (ap faults.HandOff want))))
    boot.listed.0 boot.listed.1 boot.listed.3)

pub returns-in_err-whole_volume-clause-first : goal.returns-in_err-whole_volume-clause-first
returns-in_err-whole_volume-clause-first c =
    rw (err_is c.from_residual.ensures.1) (elim c.in_err-whole_volume.ensures.rejected [
      | inl want ↦ inl (want, c.in_err-whole_volume.ensures.memory want)
      | inr bad ↦ inr bad
    ])

pub returns-in_err-read_depex-clause-first : goal.returns-in_err-read_depex-clause-first
returns-in_err-read_depex-clause-first c =
    rw (err_is c.from_residual-in_err-read_depex.ensures.1)
    ((_, c.in_ok-whole_volume.ensures.found), c.in_err-read_depex.ensures.first, c.in_err-read_depex.ensures.memory)

pub returns-in_err-read_hobs-clause-first : goal.returns-in_err-read_hobs-clause-first
returns-in_err-read_hobs-clause-first c =
    rw (err_is c.from_residual-in_err-read_hobs.ensures.1) (
      (_, c.in_ok-whole_volume.ensures.found),
      (_, _, c.in_ok-read_depex.ensures.found.1),
      c.in_err-read_hobs.ensures.first,
      c.in_err-read_hobs.ensures.memory,
    )
