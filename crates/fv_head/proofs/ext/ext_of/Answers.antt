use Rattle.fv_base.proofs.Laws.{arith, common_steps}
use Rattle.fv_head.proofs.ExtLemmas.{ext_from}
use Rattle.fv_head.proofs.ext.ext_of.Goals as goal

pub invariant_of-result : goal.invariant_of-result
invariant_of-result c = grind (arith, common_steps, ext_from)

pub returns-clause-ok : goal.returns-clause-ok
returns-clause-ok c = grind (arith, common_steps, ext_from)
