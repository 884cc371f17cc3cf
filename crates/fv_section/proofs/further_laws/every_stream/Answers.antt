use Rattle.fv_base.proofs.Laws.{First}
use Rattle.fv_section.proofs.DecidedLemmas.{stream_decided}
use Rattle.fv_section.proofs.FrameWalkLemmas.{none_after}
use Rattle.fv_section.proofs.further_laws.every_stream.Goals as goal

pub returns-clause-either : goal.returns-clause-either
returns-clause-either c = stream_decided

pub returns-clause-never : goal.returns-clause-never
returns-clause-never c b frames tail f split fault = none_after First b f frames tail fault split
