use Rattle.fv_base.proofs.Laws.{First}
use Rattle.fv_section.proofs.DecidedLemmas.{frame_decided}
use Rattle.fv_section.proofs.FrameLemmas.{none_stands}
use Rattle.fv_section.proofs.further_laws.every_frame.Goals as goal

pub returns-clause-either : goal.returns-clause-either
returns-clause-either c = frame_decided

pub returns-clause-never : goal.returns-clause-never
returns-clause-never c b at g f stands fault = none_stands First at b f g fault stands
