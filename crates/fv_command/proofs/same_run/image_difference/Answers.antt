use Rattle.fv_command.proofs.SameLaws.{answer_is}
use Rattle.fv_command.proofs.same_run.image_difference.Goals as goal

pub returns-clause-ok : goal.returns-clause-ok
returns-clause-ok c =
    let one = rw c.full.ensures at c.in_ok-one.ensures.levels in
    let other = rw c.full-2.ensures at c.in_ok-other.ensures.levels in
    answer_is c.args.first.now c.args.second.now _ _ _ one other c.first_difference.ensures.same c.first_difference.ensures.other
    c.first_difference.ensures.first
