use Rattle.fv_hob.proofs.DecidedListLemmas.{hobs_decided}
use Rattle.fv_hob.proofs.HobReadLemmas.{none_after}
use Rattle.fv_hob.proofs.further_laws.every_list.Goals as goal

pub returns-clause-either : goal.returns-clause-either
returns-clause-either c = hobs_decided

pub returns-clause-never : goal.returns-clause-never
returns-clause-never c b list rest all f first is whole = none_after b f all list rest first is whole
