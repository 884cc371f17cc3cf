use Rattle.std.proofs.Common.{◌∙◌, codes, refl, sym, None}
use Rattle.fv_arguments.proofs.ArgumentReadLemmas.{text_answer}
use Rattle.fv_arguments.proofs.TaskLemmas.{by_flag}
use Rattle.fv_arguments.specs.Words.{survey_app}
use Rattle.fv_plan.specs.declared.plan.Task.TheVariants.{Survey, SurveyOpened}
use Rattle.fv_arguments.proofs.options.survey.Goals as goal

pub returns : goal.returns
returns c = λ rest r.
    let opened = c.is_given.ensures survey_app rest r in
    let file = c.in_ok-file.ensures ∙ text_answer r (codes "file") in
    by_flag (codes "survey") rest None _ _ SurveyOpened Survey _ c.task_by-task.ensures
    (λ on. (refl, (sym opened ∙ on, refl, file))) (λ off. (refl, (sym opened ∙ off, refl, file)))
