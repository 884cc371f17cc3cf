use Rattle.fv_base.proofs.Laws.{◌∙◌, codes, refl, sym, err_is}
use Rattle.fv_arguments.proofs.ArgumentReadLemmas.{text_answer}
use Rattle.fv_arguments.proofs.RefusalLemmas.{no_input, right_part}
use Rattle.fv_arguments.proofs.TaskLemmas.{by_flag}
use Rattle.fv_arguments.specs.Words.{extract_app}
use Rattle.fv_plan.specs.declared.plan.Task.TheVariants.{Extract, ExtractOpened}
use Rattle.fv_arguments.proofs.options.extract.Goals as goal

pub returns-in_err-part : goal.returns-in_err-part
returns-in_err-part c =
    rw (err_is c.from_residual.ensures.1) (λ words rest r right.
    let part = right_part rest right in
    c.in_err-part.ensures words part.0
    (simp (c.get_str.ensures, c.get_str-section.ensures, c.get_str-instance.ensures, text_answer r) part.1))

pub returns-in_err-at : goal.returns-in_err-at
returns-in_err-at c = rw (err_is c.from_residual-in_err-at.ensures.1) (no_input _ (codes "extract") refl c.in_err-at.ensures)

pub returns : goal.returns
returns c = λ rest r.
    let part = simp (c.get_str.ensures, c.get_str-section.ensures, c.get_str-instance.ensures, text_answer r) at c.in_ok-part.ensures in
    let opened = c.is_given-opened.ensures extract_app rest r in
    let input = c.in_ok-at.ensures extract_app rest r in
    by_flag (codes "extract") rest _ _ _ (ExtractOpened _) (Extract _) _ c.task_by-task.ensures
    (λ on. (refl, (sym opened ∙ on, (input, part)))) (λ off. (refl, (sym opened ∙ off, (input, part))))
