use Rattle.fv_base.proofs.Laws.{arith, common_steps}
use Rattle.fv_file.proofs.leading.leading_count.Goals as goal

pub loop-at-preserved : goal.loop-at-preserved
loop-at-preserved c = grind (arith, common_steps)

pub returns-after-loop-at-clause-run : goal.returns-after-loop-at-clause-run
returns-after-loop-at-clause-run c = grind (arith, common_steps)

pub returns-else-bytes-at-clause-run : goal.returns-else-bytes-at-clause-run
returns-else-bytes-at-clause-run c = grind (arith, common_steps)
