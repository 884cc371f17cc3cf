use Rattle.fv_survey.proofs.SurveyLaws.{sections_are_honest, sections_few, sections_inside, sections_nesting, sections_passing}
use Rattle.fv_survey.proofs.SurveyLaws.{sections_tiling}
use Rattle.fv_survey.proofs.further_laws.sections_keep_the_laws.Goals as goal

pub returns-clause-tiling : goal.returns-clause-tiling
returns-clause-tiling c b room = sections_tiling b room

pub returns-clause-inside : goal.returns-clause-inside
returns-clause-inside c b room = sections_inside b room

pub returns-clause-nesting : goal.returns-clause-nesting
returns-clause-nesting c b room = sections_nesting b room

pub returns-clause-passes : goal.returns-clause-passes
returns-clause-passes c b room = sections_passing b room

pub returns-clause-honest : goal.returns-clause-honest
returns-clause-honest c b room = sections_are_honest b room

pub returns-clause-few : goal.returns-clause-few
returns-clause-few c b = sections_few b
