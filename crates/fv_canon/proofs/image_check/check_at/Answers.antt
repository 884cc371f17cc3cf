use Rattle.fv_base.proofs.Laws.{common_steps, arith}
use Rattle.fv_flash.proofs.Laws.{at_within}
use Rattle.fv_canon.proofs.image_check.check_at.Goals as goal

pub outcome_of-requires : goal.outcome_of-requires
outcome_of-requires c = grind (arith, common_steps, at_within) steps 400000
