use Rattle.fv_base.proofs.Laws.{depth_limit, on_ok_weaker}
use Rattle.fv_marks.proofs.AcceptedLemmas.{accepted_stream}
use Rattle.fv_marks.proofs.tree_marks.take_marks_of_sections.Goals as goal

pub returns-clause-same : goal.returns-clause-same
returns-clause-same c =
    on_ok_weaker c.take_in_stream.result
    (λ lost ss t d. accepted_stream depth_limit depth_limit ss t c.args.bytes.now c.take_in_stream.new.stream d lost)
    c.take_in_stream.ensures.lost
