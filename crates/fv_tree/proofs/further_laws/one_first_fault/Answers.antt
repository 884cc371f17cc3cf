use Rattle.fv_tree.proofs.OneFirstLaws.{first_of_input}
use Rattle.fv_tree.proofs.further_laws.one_first_fault.Goals as goal

pub returns : goal.returns
returns c = first_of_input
