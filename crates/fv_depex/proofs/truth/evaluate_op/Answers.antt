use Rattle.std.proofs.Common.{arith}
use Rattle.std.proofs.lemmas.Grind.{common_steps}
use Rattle.fv_depex.proofs.truth.evaluate_op.Goals as goal

pub returns-in-None-pop_two : goal.returns-in-None-pop_two
returns-in-None-pop_two c = grind (arith, common_steps)

pub returns-in-None-pop_two-2 : goal.returns-in-None-pop_two-2
returns-in-None-pop_two-2 c = grind (arith, common_steps)

pub returns-in-Some : goal.returns-in-Some
returns-in-Some c = grind (arith, common_steps)
