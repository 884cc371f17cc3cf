use Rattle.std.proofs.Common.{take}
use Rattle.std.specs.List.{concat}
use Rattle.fv_budget.specs.Words.{full_budget}
use Rattle.fv_levels.specs.Words.{levels_of}
use Rattle.fv_level_lines.specs.Words.{levels_lines}
use Rattle.fv_command.proofs.SurveyLaws.{survey_ends}
use Rattle.fv_command.proofs.survey_run.put_surveyed_opened.Goals as goal

pub returns : goal.returns
returns g c =
    let put = rw c.full.ensures at c.put_levels.ensures in
    survey_ends g.S.Sink.takes _ _ c.put_levels.result _ _ _ (λ n. concat (take n (levels_lines (levels_of c.args.image.now full_budget)))) put.text
    put.clean put.front c.survey_status.ensures.whole c.survey_status.ensures.cut
