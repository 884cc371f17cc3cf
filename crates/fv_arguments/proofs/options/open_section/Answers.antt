use Rattle.fv_base.proofs.Laws.{codes, refl, err_is}
use Rattle.fv_arguments.proofs.ArgumentReadLemmas.{text_answer}
use Rattle.fv_arguments.proofs.RefusalLemmas.{no_input, right_path}
use Rattle.fv_arguments.specs.Words.{open_app}
use Rattle.fv_arguments.proofs.options.open_section.Goals as goal

pub returns-in_err-path : goal.returns-in_err-path
returns-in_err-path c =
    rw (err_is c.from_residual.ensures.1) (λ words rest r right.
    let path = right_path rest right in
    c.in_err-path.ensures words path.0 (simp (c.get_str.ensures, text_answer r) path.1))

pub returns-in_err-at : goal.returns-in_err-at
returns-in_err-at c = rw (err_is c.from_residual-in_err-at.ensures.1) (no_input _ (codes "open") refl c.in_err-at.ensures)

pub returns : goal.returns
returns c = λ rest r.
    let path = simp (c.get_str.ensures, text_answer r) at c.in_ok-path.ensures in
    (refl, (c.in_ok-at.ensures open_app rest r, path))
