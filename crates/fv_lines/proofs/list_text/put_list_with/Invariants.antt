use Rattle.fv_lines.specs.inner.LineRuns.{PutsRows}
use Rattle.fv_lines.proofs.list_text.put_list_with.Given as goal

-- the digests cover the rows that are left; once the lines of these rows are put, the lines of all rows are put
abbrev pub invariant-loop-row : goal.invariant-loop-row
invariant-loop-row g l =
    (goal.iterator-loop-row g).can_next l.row-iterator
    × (goal.iterator-loop-row g).is_finite l.row-iterator
    × g.D.Digests.covers l.left l.row-iterator
    × ((end : _) → PutsRows g.S.Sink.takes g.D.Digests.of_node l.row-iterator l.out end
    → PutsRows g.S.Sink.takes g.D.Digests.of_node l.initial.row-iterator l.initial.out end)
