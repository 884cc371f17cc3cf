use Rattle.std.proofs.lemmas.Grind.{common_steps}
use Rattle.std.proofs.Common.{arith}
use Rattle.std.proofs.lemmas.Option.{slice_get_read, slice_get_past}
use Rattle.fv_tree.proofs.VolumePartLaws.{files_list_back}
use Rattle.fv_tree.proofs.view.VolumeView.file.Goals as goal

pub returns-then-at-len : goal.returns-then-at-len
returns-then-at-len c = grind (arith, common_steps, files_list_back, slice_get_read) steps 150000

pub returns-else-at-len : goal.returns-else-at-len
returns-else-at-len c = grind (arith, common_steps, files_list_back, slice_get_past) steps 150000
