use Rattle.fv_base.proofs.Laws.{arith, common_steps}
use Rattle.fv_head.proofs.header_checks.later_verdict.Goals as goal

pub returns-clause-ext : goal.returns-clause-ext
returns-clause-ext c = grind (arith, common_steps)
