use Rattle.fv_lines.proofs.depex_notes.put_leaf.Goals as goal

pub returns-in-Some : goal.returns-in-Some
returns-in-Some g c = rw (← c.phase_of.ensures, c.in-Some.is) c.put_depex.ensures
