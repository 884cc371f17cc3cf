use Rattle.std.proofs.Common.{◌∙◌, sym}
use Rattle.fv_tree.specs.Words.{traits_of}
use Rattle.fv_tree.specs.declared.view.FileTraits.{FileTraits}
use Rattle.fv_tree.proofs.WalkedSectionLaws.{file_kept}
use Rattle.fv_tree.proofs.view.FileView.content.Goals as goal

pub of-requires : goal.of-requires
of-requires c =
    let kept : FileTraits = traits_of c.self.inside.parts in
    let sectioned = rw c.traits-traits.ensures at (sym c.holds_sections.ensures ∙ c.if-holds_sections.true) in
    rw (c.volumes.ensures, c.data-data.ensures, c.traits-traits.ensures)
    (file_kept kept.left _ _ c.self.inside.name kept.file_type _ sectioned c.self.invariant)
