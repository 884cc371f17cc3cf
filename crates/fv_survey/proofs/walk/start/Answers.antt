use Rattle.std.proofs.Common.{ap, ◌∙◌}
use Rattle.fv_survey.specs.Words.{ahead, portion_form, rows_left, stack}
use Rattle.fv_survey.proofs.walk.start.Goals as goal

pub returns-clause-rows : goal.returns-clause-rows
returns-clause-rows c =
    ap rows_left (c.in_ok-put.ensures.put
    ∙ ap (λ items. ahead (portion_form c.args.portion) (stack items)) c.new-portions.ensures.items)
