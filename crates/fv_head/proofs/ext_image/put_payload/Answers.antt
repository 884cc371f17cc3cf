use Rattle.fv_base.proofs.Laws.{arith, common_steps}
use Rattle.fv_head.proofs.ExtImageLemmas.{used_put, payload_put}
use Rattle.fv_head.proofs.HeadWalkLemmas.{renamed}
use Rattle.fv_head.proofs.ext_image.put_payload.Goals as goal

pub returns-then-is_used_size : goal.returns-then-is_used_size
returns-then-is_used_size g c = grind (arith, common_steps, renamed, used_put)

pub returns-else-is_used_size : goal.returns-else-is_used_size
returns-else-is_used_size g c = grind (arith, common_steps, renamed, payload_put)
