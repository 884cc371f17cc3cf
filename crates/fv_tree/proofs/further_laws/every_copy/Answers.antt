use Rattle.fv_tree.proofs.FixedMarkLaws.{none_unfixed}
use Rattle.fv_tree.proofs.LostMarkLaws.{copy_decided}
use Rattle.fv_tree.proofs.further_laws.every_copy.Goals as goal

pub returns-clause-either : goal.returns-clause-either
returns-clause-either c = copy_decided

pub returns-clause-never : goal.returns-clause-never
returns-clause-never c b copy f unfixed stops = none_unfixed b f stops copy unfixed
