use Rattle.fv_base.proofs.Laws.{depth_limit}
use Rattle.fv_marks.specs.Words.{BodyLoses, StreamLoses}
use Rattle.fv_marks.proofs.OneResultLemmas.{one_body, one_stream, one_volume}
use Rattle.fv_marks.proofs.further_laws.marks_are_lost_in_one_way.Goals as goal

pub returns-clause-volume : goal.returns-clause-volume
returns-clause-volume c =
    one_volume (StreamLoses (BodyLoses depth_limit)) (one_stream (BodyLoses depth_limit) (one_body depth_limit))

pub returns-clause-stream : goal.returns-clause-stream
returns-clause-stream c = one_stream (BodyLoses depth_limit) (one_body depth_limit)
