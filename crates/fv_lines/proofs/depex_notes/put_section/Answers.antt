use Rattle.fv_lines.proofs.DepexNoteLemmas.{of_section}
use Rattle.fv_lines.proofs.depex_notes.put_section.Goals as goal

pub returns-in-Some : goal.returns-in-Some
returns-in-Some g c =
    rw (of_section c.args.name c.args.section.now, ← c.leaf.ensures, c.in-Some.is, ← c.kind.ensures.kind) c.put_leaf.ensures
