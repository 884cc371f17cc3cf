use Rattle.fv_base.proofs.Laws.{arith, common_steps}
use Rattle.fv_head.proofs.BlockMapLemmas.{pairs_of-step}
use Rattle.fv_head.proofs.block_map.first_pair.Goals as goal

pub returns-clause-some : goal.returns-clause-some
returns-clause-some c = grind (arith, common_steps, pairs_of-step)
