use Rattle.std.proofs.Common.{◌∙◌, ap, sym}
use Rattle.fv_survey.specs.Words.{portion_form, stack}
use Rattle.fv_survey.proofs.PortionLaws.{ahead_some, stack_push}
use Rattle.fv_survey.proofs.portion.put.Goals as goal

pub returns-in_ok-push-clause-put : goal.returns-in_ok-push-clause-put
returns-in_ok-push-clause-put c =
    ap stack c.in_ok-push.ensures.items ∙ stack_push c.args.portions.now.items c.args.portion
    ∙ sym (ahead_some (portion_form c.args.portion) (stack c.args.portions.now.items) (sym c.if-not-is_empty.ensures))
