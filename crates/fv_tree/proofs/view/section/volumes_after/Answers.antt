use Rattle.std.proofs.Common.{◌∙◌, sym, eqb-true}
use Rattle.fv_tree.proofs.WalkedSectionLaws.{none_after}
use Rattle.fv_tree.proofs.view.section.volumes_after.Goals as goal

pub returns-then-is_empty : goal.returns-then-is_empty
returns-then-is_empty c = none_after c.args.left _ c.args.volumes.now (eqb-true _ _ (sym c.is_empty.ensures ∙ c.if-is_empty.true))
