use Rattle.std.proofs.Common.{◌∙◌, List, refl, sym, ap}
use Rattle.fv_section.specs.Words.{FrameForm, frame_form}
use Rattle.fv_tree.specs.Words.{Meaning, SectionMeaning, body_len, body_of, shape_of}
use Rattle.fv_tree.proofs.LengthLaws.{body_long}
use Rattle.fv_tree.proofs.WalkedSectionLaws.{section_is}
use Rattle.fv_tree.proofs.view.SectionView.body_len.Goals as goal

pub returns : goal.returns
returns c =
    let n = c.self.inside.left in
    let f : FrameForm = frame_form c.self.inside.frame in
    let vs : List Meaning = c.self.inside.volumes.now in
    let is = section_is n f vs (shape_of f) refl in
    body_long n f f.kind _ (rw is at c.self.invariant.means)
    ∙ ap (λ (r : SectionMeaning × List Meaning). body_len (body_of r.0)) (sym is) ∙ ap (λ (s : SectionMeaning). body_len (body_of s)) c.self.view_is
