use Rattle.std.proofs.Common.{◌∙◌, length, sym, ap}
use Rattle.fv_tree.specs.Words.{FileMeaning, data_len_of, traits_of}
use Rattle.fv_tree.proofs.LengthLaws.{content_long}
use Rattle.fv_tree.proofs.view.FileView.data_len.Goals as goal

pub returns : goal.returns
returns c =
    let kept = c.self.invariant in
    ap length c.data.ensures ∙ ap length (sym kept.payload_is) ∙ content_long (traits_of c.self.inside.parts).left kept.form _ _ _ _ kept.means
    ∙ ap (λ (m : FileMeaning). data_len_of m) c.self.view_is
