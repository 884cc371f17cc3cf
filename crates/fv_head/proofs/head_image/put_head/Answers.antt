use Rattle.fv_base.proofs.Laws.{arith, common_steps}
use Rattle.fv_head.specs.Words.{canonical_head}
use Rattle.fv_head.proofs.HeadWalkLemmas.{renamed}
use Rattle.fv_head.proofs.head_image.put_head.Goals as goal

pub returns-clause-bytes : goal.returns-clause-bytes
unfolding canonical_head
returns-clause-bytes g c = grind (arith, common_steps, renamed)
