use Rattle.std.proofs.lemmas.Grind.{common_steps}
use Rattle.std.proofs.Common.{arith}
use Rattle.fv_tree.proofs.WalkedSectionLaws.{few_sections}
use Rattle.fv_tree.proofs.view.Sections.known.Goals as goal

pub returns : goal.returns
returns c = grind (arith, common_steps, few_sections) steps 150000
