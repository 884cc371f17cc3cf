use Rattle.fv_base.proofs.Laws.{refl, err_is}
use Rattle.fv_arguments.proofs.ArgumentReadLemmas.{text_answer}
use Rattle.fv_arguments.proofs.RefusalLemmas.{right_images}
use Rattle.fv_arguments.proofs.options.same.Goals as goal

pub returns-in_err-first : goal.returns-in_err-first
returns-in_err-first c =
    rw (err_is c.from_residual.ensures.1) (λ words rest r right.
    let images = right_images rest right in
    c.in_err-first.ensures words images.0 (simp (c.get_str.ensures, text_answer r) images.2))

pub returns-in_err-second : goal.returns-in_err-second
returns-in_err-second c =
    rw (err_is c.from_residual-in_err-second.ensures.1) (λ words rest r right.
    let images = right_images rest right in
    c.in_err-second.ensures words images.1 (simp (c.get_str-2.ensures, text_answer r) images.3))

pub returns : goal.returns
returns c = λ rest r.
    let first = simp (c.get_str.ensures, text_answer r) at c.in_ok-first.ensures in
    let second = simp (c.get_str-2.ensures, text_answer r) at c.in_ok-second.ensures in
    (refl, (first, second))
