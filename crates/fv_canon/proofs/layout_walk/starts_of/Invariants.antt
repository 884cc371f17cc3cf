use Rattle.fv_canon.proofs.LayoutWalkLaws.{Collects}
use Rattle.fv_canon.proofs.layout_walk.starts_of.Given as goal

abbrev pub invariant-loop-row : goal.invariant-loop-row
invariant-loop-row l =
    goal.iterator-loop-row.can_next l.row-iterator × goal.iterator-loop-row.is_finite l.row-iterator
    × Collects l.fn.rows l.row-iterator l.starts.items
