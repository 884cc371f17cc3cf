use Rattle.std.proofs.lemmas.Grind.{common_steps}
use Rattle.std.proofs.Common.{arith}
use Rattle.fv_base.proofs.Laws.{first_is}
use Rattle.fv_depex.proofs.OpLemmas.{op_stands}
use Rattle.fv_depex.proofs.read.op_at.Goals as goal

pub returns-in-Ok-clause-found : goal.returns-in-Ok-clause-found
returns-in-Ok-clause-found c = grind (arith, common_steps, op_stands)

pub returns-in-Err-clause-first : goal.returns-in-Err-clause-first
returns-in-Err-clause-first c = grind (arith, common_steps, first_is)
