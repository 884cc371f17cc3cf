use Rattle.fv_base.proofs.Laws.{arith, common_steps}
use Rattle.fv_file.proofs.head.check_file.Goals as goal

pub returns-clause-within : goal.returns-clause-within
returns-clause-within c = grind (arith, common_steps)

pub returns-in_err-check-3-clause-err : goal.returns-in_err-check-3-clause-err
returns-in_err-check-3-clause-err c = grind (arith, common_steps) steps 400000
