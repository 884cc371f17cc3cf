use Rattle.fv_base.proofs.Laws.{◌∙◌, codes, refl, sym, err_is}
use Rattle.fv_arguments.proofs.RefusalLemmas.{no_input, no_task}
use Rattle.fv_arguments.proofs.TaskLemmas.{both_flags, by_flags}
use Rattle.fv_arguments.specs.Words.{list_app}
use Rattle.fv_arguments.proofs.options.list.Goals as goal

pub returns-in_err-at : goal.returns-in_err-at
returns-in_err-at c = rw (err_is c.from_residual.ensures.1) (no_input _ (codes "list") refl c.in_err-at.ensures)

pub returns-in-Some : goal.returns-in-Some
returns-in-Some c = λ rest r.
    by_flags rest _ _ _ _ _ (c.is_given-sums.ensures list_app rest r) (c.is_given-opened.ensures list_app rest r)
    (c.in_ok-at.ensures list_app rest r) (sym c.list_task.ensures ∙ c.in-Some.is)

pub returns-in-None : goal.returns-in-None
returns-in-None c = λ words rest r right.
    let both = both_flags _ _ (sym c.list_task.ensures ∙ c.in-None.is) in
    no_task rest (sym (c.is_given-sums.ensures list_app rest r) ∙ both.0) (sym (c.is_given-opened.ensures list_app rest r) ∙ both.1) right
