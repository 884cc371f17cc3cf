use Rattle.fv_file.proofs.FirstFileLemmas.{file_decided, file_never}
use Rattle.fv_file.proofs.further_laws.every_file.Goals as goal

pub returns-clause-either : goal.returns-clause-either
returns-clause-either c = file_decided

pub returns-clause-never : goal.returns-clause-never
returns-clause-never c = file_never
