use Rattle.fv_marks.proofs.OwnMarkLemmas.{lost_own}
use Rattle.fv_marks.proofs.own_marks.take_own_marks.Goals as goal

pub returns-in-Ok : goal.returns-in-Ok
returns-in-Ok c = lost_own c.args.bytes.now c.unmark_body.new.volume c.in-Ok.ensures.found.0 c.in-Ok.extent c.in-Ok.ensures.found.1 c.unmark_body.ensures
