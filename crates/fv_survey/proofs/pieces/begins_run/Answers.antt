use Rattle.std.proofs.Common.{arith}
use Rattle.fv_base.proofs.Laws.{common_steps}
use Rattle.fv_survey.proofs.PieceLaws.{take_least, first_differs}
use Rattle.fv_survey.proofs.pieces.begins_run.Goals as goal

pub returns-then-rest-erased : goal.returns-then-rest-erased
returns-then-rest-erased c = grind (arith, common_steps, take_least)

pub returns-else-rest-erased : goal.returns-else-rest-erased
returns-else-rest-erased c = first_differs _ _ 256 c.args.rest.now c.erased-erased.ensures.value c.requires (omega arith) c.if-rest-erased.false
