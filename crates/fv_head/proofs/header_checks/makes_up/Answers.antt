use Rattle.fv_base.proofs.Laws.{arith, common_steps}
use Rattle.fv_head.proofs.header_checks.makes_up.Goals as goal

pub loop-count-preserved : goal.loop-count-preserved
loop-count-preserved c = grind (arith, common_steps)

pub returns-then-left-bytes : goal.returns-then-left-bytes
returns-then-left-bytes c = grind (arith, common_steps)
