use Rattle.std.proofs.Common.{◌≡◌, length}
use Rattle.fv_levels.specs.Words.{source_form}
use Rattle.fv_same.specs.Words.{updates_from, updates_of}
use Rattle.fv_same.proofs.superseded.updates_of.Given as goal

-- the names so far, and those of the rows that are left, are the names of the source
abbrev pub invariant-loop-names : goal.invariant-loop-names
invariant-loop-names l =
    updates_from l.around.items l.source.bytes.now l.names.keys l.walk ≡ updates_of (source_form l.fn.source)

abbrev pub decreases-loop-names : goal.decreases-loop-names
decreases-loop-names l = length l.walk
