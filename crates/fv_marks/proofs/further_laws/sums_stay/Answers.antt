use Rattle.fv_base.proofs.Laws.{depth_limit}
use Rattle.fv_marks.specs.Words.{BodyLoses, StreamLoses}
use Rattle.fv_marks.proofs.SumLemmas.{body_sum, stream_sum, volume_sum}
use Rattle.fv_marks.proofs.further_laws.sums_stay.Goals as goal

pub returns-clause-volume : goal.returns-clause-volume
returns-clause-volume c b o lost =
    (volume_sum (StreamLoses (BodyLoses depth_limit)) (stream_sum (BodyLoses depth_limit) (body_sum depth_limit)) b o lost).1

pub returns-clause-stream : goal.returns-clause-stream
returns-clause-stream c b o lost = (stream_sum (BodyLoses depth_limit) (body_sum depth_limit) b o lost).1
