use Rattle.std.proofs.lemmas.Grind.{common_steps}
use Rattle.std.proofs.Common.{length, ap, arith}
use Rattle.fv_tree.specs.Words.{Volume, files_from}
use Rattle.fv_tree.proofs.FileCountLaws.{few_of}
use Rattle.fv_tree.proofs.VolumePartLaws.{files_list_back}
use Rattle.fv_tree.proofs.view.VolumeView.file_count.Goals as goal

pub overflow_cast-result : goal.overflow_cast-result
overflow_cast-result c =
    let files = c.self.inside.files in
    let few = few_of (Volume c.self.inside.head (files_from files.items)) c.self.invariant.0 in
    omega (arith, few, ap length (files_list_back files.items), c.len.ensures, files.ok.0)

pub returns : goal.returns
returns c = grind (arith, common_steps, files_list_back) steps 150000
