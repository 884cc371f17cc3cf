use Rattle.fv_base.proofs.Laws.{depth_limit, on_ok_weaker}
use Rattle.fv_marks.proofs.AcceptedLemmas.{accepted_volume}
use Rattle.fv_marks.proofs.tree_marks.take_marks.Goals as goal

pub returns-clause-same : goal.returns-clause-same
returns-clause-same c =
    on_ok_weaker c.take_in_volume.result
    (λ lost n m within d. accepted_volume depth_limit depth_limit n c.args.bytes.now c.take_in_volume.new.bytes m within d lost)
    c.take_in_volume.ensures.lost
