use Rattle.fv_base.proofs.Laws.{arith, common_steps}
use Rattle.fv_survey.proofs.MapLaws.{pairs_more}
use Rattle.fv_survey.proofs.header.first_pair.Goals as goal

pub returns-clause-some : goal.returns-clause-some
returns-clause-some c = grind (arith, common_steps, pairs_more)
