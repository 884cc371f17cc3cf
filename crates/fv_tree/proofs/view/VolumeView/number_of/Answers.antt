use Rattle.std.proofs.lemmas.Grind.{common_steps}
use Rattle.std.proofs.Common.{arith}
use Rattle.fv_tree.proofs.NamedLaws.{looked_up}
use Rattle.fv_tree.proofs.VolumePartLaws.{files_list_back}
use Rattle.fv_tree.proofs.view.VolumeView.number_of.Goals as goal

pub returns : goal.returns
returns c = grind (arith, common_steps, files_list_back, looked_up) steps 150000
