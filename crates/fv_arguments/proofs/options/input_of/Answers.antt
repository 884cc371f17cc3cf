use Rattle.std.proofs.Common.{◌∙◌, codes}
use Rattle.fv_arguments.proofs.ArgumentReadLemmas.{text_answer}
use Rattle.fv_arguments.proofs.RefusalLemmas.{passed}
use Rattle.fv_arguments.proofs.options.input_of.Goals as goal

pub returns-in_err-at : goal.returns-in_err-at
returns-in_err-at c = λ app rest r.
    passed _ _ _ _ c.from_residual.ensures.1 c.in_err-at.ensures
    (λ i input. (i.0, rw (c.get_str.ensures ∙ text_answer r (codes "at")) input.0))

pub returns : goal.returns
returns c = λ app rest r. (
  rw (c.get_str.ensures ∙ text_answer r (codes "at")) at c.in_ok-at.ensures,
  c.in_ok-file_of.ensures ∙ text_answer r (codes "file"),
)
