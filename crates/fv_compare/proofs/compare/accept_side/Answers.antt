use Rattle.std.proofs.Common.{refl}
use Rattle.fv_tree.proofs.Laws.{ran_out}
use Rattle.fv_compare.proofs.compare.accept_side.Goals as goal

pub returns-in-Err-clause-err : goal.returns-in-Err-clause-err
returns-in-Err-clause-err c = (refl, ran_out _ _ c.in-Err.ensures.rejected c.in-Err.ensures.memory)
