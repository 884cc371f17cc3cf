use Rattle.std.specs.List.{flat_map}
use Rattle.fv_lines.specs.inner.LineRuns.{PutsNotes}
use Rattle.fv_lines.specs.Words.{section_depex}
use Rattle.fv_lines.proofs.depex_notes.put_file.Given as goal

-- once the notes of the sections that are left are put, the notes of all sections are put
abbrev pub invariant-loop-section : goal.invariant-loop-section
invariant-loop-section g l =
    (goal.iterator-loop-section g).can_next l.section-iterator
    × (goal.iterator-loop-section g).is_finite l.section-iterator
    × ((end : _) → PutsNotes g.S.Sink.takes (flat_map (section_depex l.name) l.section-iterator) l.out end
    → PutsNotes g.S.Sink.takes (flat_map (section_depex l.name) l.initial.section-iterator) l.initial.out end)
