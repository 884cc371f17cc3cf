use Rattle.fv_base.proofs.Laws.{depth_limit}
use Rattle.fv_marks.proofs.AgainLemmas.{streams_again, volumes_again}
use Rattle.fv_marks.proofs.further_laws.unmarked_bytes_stay.Goals as goal

pub returns-clause-volume : goal.returns-clause-volume
returns-clause-volume c = volumes_again depth_limit

pub returns-clause-stream : goal.returns-clause-stream
returns-clause-stream c = streams_again depth_limit
