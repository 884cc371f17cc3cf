use Rattle.std.proofs.Common.{◌≡◌, [], IfOk, subst}
use Rattle.fv_survey.specs.Words.{PortionForm, ahead, rows_left, survey_of}
use Rattle.fv_survey.proofs.walk.SurveyWalk.of.Goals as goal

pub returns-clause-rows : goal.returns-clause-rows
unfolding survey_of
returns-clause-rows c =
    subst (λ (p : PortionForm). IfOk c.start.result (λ w. w ≡ rows_left (ahead p []))) c.whole.ensures c.start.ensures.rows
