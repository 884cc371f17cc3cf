use Rattle.fv_tree.proofs.LostMarkLaws.{differ_only, one_copy}
use Rattle.fv_tree.proofs.further_laws.marks_do_not_matter.Goals as goal

pub returns-clause-same : goal.returns-clause-same
returns-clause-same c = one_copy

pub returns-clause-differ : goal.returns-clause-differ
returns-clause-differ c = differ_only
