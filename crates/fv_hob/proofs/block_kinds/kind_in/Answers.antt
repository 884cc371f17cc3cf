use Rattle.std.proofs.Common.{arith}
use Rattle.std.proofs.lemmas.Grind.{common_steps}
use Rattle.fv_hob.proofs.block_kinds.kind_in.Goals as goal

pub returns : goal.returns
returns c = grind (arith, common_steps)
