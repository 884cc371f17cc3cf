use Rattle.fv_head.proofs.DecidedLemmas.{front_decided, front_never}
use Rattle.fv_head.proofs.further_laws.every_header.Goals as goal

pub returns-clause-either : goal.returns-clause-either
returns-clause-either c = front_decided

pub returns-clause-never : goal.returns-clause-never
returns-clause-never c = front_never
