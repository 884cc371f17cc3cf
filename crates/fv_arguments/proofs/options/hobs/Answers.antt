use Rattle.fv_base.proofs.Laws.{◌∙◌, codes, refl, err_is}
use Rattle.fv_arguments.proofs.ArgumentReadLemmas.{text_answer}
use Rattle.fv_arguments.proofs.RefusalLemmas.{right_image}
use Rattle.fv_arguments.proofs.options.hobs.Goals as goal

pub returns-in_err-image_of : goal.returns-in_err-image_of
returns-in_err-image_of c =
    rw (err_is c.from_residual-in_err-image_of.ensures.1) (λ words rest r right.
    let image = right_image rest right in
    c.in_err-image_of.ensures words image.0 (simp (c.get_str-path.ensures, c.get_str-base.ensures, text_answer r) image.1))

pub returns : goal.returns
returns c = λ rest r.
    let image = simp (c.get_str-path.ensures, c.get_str-base.ensures, text_answer r) at c.in_ok-image_of.ensures in
    (refl, (c.in_ok-file_of.ensures ∙ text_answer r (codes "file"), image))
