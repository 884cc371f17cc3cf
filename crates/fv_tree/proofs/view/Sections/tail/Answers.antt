use Rattle.std.proofs.lemmas.Grind.{common_steps}
use Rattle.std.proofs.Common.{arith}
use Rattle.fv_tree.proofs.StreamFrameLaws.{first_start}
use Rattle.fv_tree.proofs.view.Sections.tail.Goals as goal

pub loop-bytes-preserved : goal.loop-bytes-preserved
loop-bytes-preserved c = grind (arith, common_steps, first_start) steps 150000

pub loop-bytes-smaller : goal.loop-bytes-smaller
loop-bytes-smaller c = grind (arith, common_steps)

pub returns : goal.returns
returns c = grind (arith, common_steps)
