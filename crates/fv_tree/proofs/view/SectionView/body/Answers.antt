use Rattle.std.proofs.lemmas.Grind.{common_steps}
use Rattle.std.proofs.Common.{◌∙◌, List, sym, ap, arith}
use Rattle.fv_section.specs.Words.{frame_form}
use Rattle.fv_tree.specs.Words.{Meaning, SectionMeaning, body_of}
use Rattle.fv_tree.proofs.WalkedSectionLaws.{group_kept, group_view, volume_view}
use Rattle.fv_tree.proofs.view.SectionView.body.Goals as goal

pub of-requires : goal.of-requires
of-requires c =
    (group_kept c.self.inside.left (frame_form c.self.inside.frame) c.self.inside.volumes.now (sym c.shape_of.ensures ∙ c.in-Group.is) c.self.invariant).1

pub returns-in-Group : goal.returns-in-Group
returns-in-Group c =
    let is = sym c.shape_of.ensures ∙ c.in-Group.is in
    let kept = group_kept c.self.inside.left (frame_form c.self.inside.frame) c.self.inside.volumes.now is c.self.invariant in
    rw (← c.self.view_is, c.of.ensures) (sym (ap (λ (r : SectionMeaning × List Meaning). body_of r.0) (group_view c.self.inside.left _ _ is kept.0)))

pub returns-in-Some : goal.returns-in-Some
returns-in-Some c = grind (arith, common_steps, volume_view) steps 150000

pub returns-in-None : goal.returns-in-None
returns-in-None c = grind (arith, common_steps, volume_view) steps 150000
