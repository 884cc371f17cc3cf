use Rattle.std.proofs.Common.{take}
use Rattle.fv_survey.specs.Words.{survey_of}
use Rattle.fv_survey_lines.specs.Words.{rows_text}
use Rattle.fv_command.proofs.SurveyLaws.{survey_ends}
use Rattle.fv_command.proofs.survey_run.put_surveyed.Goals as goal

pub returns : goal.returns
returns g c =
    survey_ends g.S.Sink.takes _ _ c.put_survey.result _ _ _ (λ n. rows_text (take n (survey_of c.args.image.now))) c.put_survey.ensures.text
    c.put_survey.ensures.clean c.put_survey.ensures.front c.survey_status.ensures.whole c.survey_status.ensures.cut
