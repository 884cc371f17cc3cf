use Rattle.std.proofs.Common.{List, ◌++◌}
use Rattle.fv_canon.specs.declared.image_digests.ImageDigests.{ImageDigests}
use Rattle.fv_canon.specs.inner.Digests.{Covers}
use Rattle.fv_c.specs.ReportedDigests.{AreDigests}
use Rattle.fv_c.specs.declared.canonical.FvSha256.{FvSha256}
use Rattle.fv_c.proofs.tree_digests.walk_digests.Given as goal

-- the starts that are left begin with the starts of the files of the volumes among the rows that are left; the digests
-- that were added, followed by the digests of these rows, are the digests of all rows
abbrev pub invariant-loop-row : goal.invariant-loop-row
invariant-loop-row l =
    goal.iterator-loop-row.can_next l.row-iterator
    × goal.iterator-loop-row.is_finite l.row-iterator
    × Covers (λ (d : ImageDigests). d.starts.now) l.digests l.row-iterator
    × ((others : List FvSha256) → AreDigests others l.row-iterator → AreDigests (l.found.items ++ others) l.initial.row-iterator)
