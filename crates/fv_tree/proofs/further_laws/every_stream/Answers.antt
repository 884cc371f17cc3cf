use Rattle.fv_tree.proofs.DecidedLaws.{sections_decided}
use Rattle.fv_tree.proofs.further_laws.every_stream.Goals as goal

pub returns-clause-either : goal.returns-clause-either
returns-clause-either c = sections_decided

pub returns-clause-never : goal.returns-clause-never
returns-clause-never c b sections tail f is not = not.none sections tail is
