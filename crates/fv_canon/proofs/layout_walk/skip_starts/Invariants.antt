use Rattle.std.proofs.Common.{drop}
use Rattle.fv_rows.specs.inner.RowVolumes.{volumes_of}
use Rattle.fv_canon.specs.inner.ImageOf.{starts_in}
use Rattle.fv_canon.proofs.ImageParts.{ComesTo}
use Rattle.fv_canon.proofs.layout_walk.skip_starts.Given as goal

abbrev pub invariant-loop-row : goal.invariant-loop-row
invariant-loop-row l =
    goal.iterator-loop-row.can_next l.row-iterator × goal.iterator-loop-row.is_finite l.row-iterator
    × ComesTo (volumes_of l.row-iterator) l.rest (drop (starts_in (volumes_of l.fn.rows)) l.starts)
