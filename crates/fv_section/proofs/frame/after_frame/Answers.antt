use Rattle.std.proofs.Common.{arith}
use Rattle.std.proofs.lemmas.Grind.{common_steps}
use Rattle.fv_section.proofs.frame.after_frame.Goals as goal

pub returns-else-next-rest : goal.returns-else-next-rest
returns-else-next-rest c = grind (arith, common_steps)

pub returns-then-next-rest : goal.returns-then-next-rest
returns-then-next-rest c = grind (arith, common_steps)
