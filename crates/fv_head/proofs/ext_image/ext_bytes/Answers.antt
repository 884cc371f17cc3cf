use Rattle.fv_base.proofs.Laws.{arith, common_steps, IfOk-weaker, kept_whole}
use Rattle.fv_head.proofs.ExtImageLemmas.{ext_again}
use Rattle.fv_head.proofs.ext_image.ext_bytes.Goals as goal

pub returns-clause-bytes : goal.returns-clause-bytes
returns-clause-bytes c = grind (arith, common_steps, kept_whole)

pub returns-clause-again : goal.returns-clause-again
returns-clause-again c = grind (arith, common_steps, IfOk-weaker, ext_again, returns-clause-bytes)
