use Rattle.fv_file.proofs.LostMarkLemmas.{body_unmarked, marks_never}
use Rattle.fv_file.proofs.further_laws.every_marked_body.Goals as goal

pub returns-clause-either : goal.returns-clause-either
returns-clause-either c = body_unmarked

pub returns-clause-never : goal.returns-clause-never
returns-clause-never c = marks_never
