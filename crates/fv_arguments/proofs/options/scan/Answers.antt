use Rattle.std.proofs.Common.{◌∙◌, codes, refl}
use Rattle.fv_arguments.proofs.ArgumentReadLemmas.{text_answer}
use Rattle.fv_arguments.proofs.options.scan.Goals as goal

pub returns : goal.returns
returns c = λ rest r. (refl, (refl, c.in_ok-file.ensures ∙ text_answer r (codes "file")))
