use Rattle.fv_tree.proofs.LostMarkLaws.{marks_lost}
use Rattle.fv_tree.proofs.further_laws.only_marks_are_lost.Goals as goal

pub returns : goal.returns
returns c = marks_lost
