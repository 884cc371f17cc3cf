use Rattle.fv_tree.proofs.TurnedDifferenceLaws.{volume_turn}
use Rattle.fv_tree.proofs.further_laws.comparisons_agree.Goals as goal

pub returns : goal.returns
returns c = volume_turn
