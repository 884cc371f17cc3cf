use Rattle.fv_c.proofs.UnfixKinds.{kept_number}
use Rattle.fv_c.proofs.unfix.fvp_volume_unfix.Goals as goal

pub returns-in-Err-clause-number : goal.returns-in-Err-clause-number
returns-in-Err-clause-number c = λ _ _. rw c.set_fault.ensures.number (kept_number c.args.volume.now _ c.in-Err.ensures.err.first)

pub returns-in-Err-clause-fits : goal.returns-in-Err-clause-fits
returns-in-Err-clause-fits c = λ o to _. absurd (c.in-Err.ensures.err.none o to)
