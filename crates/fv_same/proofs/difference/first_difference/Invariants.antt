use Rattle.std.proofs.Common.{length}
use Rattle.fv_same.specs.Words.{parts_among, placed_parts}
use Rattle.fv_same.proofs.DifferenceLemmas.{Compared}
use Rattle.fv_same.proofs.difference.first_difference.Given as goal

-- the parts that are left are compared as all parts are
abbrev pub invariant-loop-other : goal.invariant-loop-other
invariant-loop-other l =
    Compared (placed_parts l.fn.first) (placed_parts l.fn.second) (parts_among l.one.items) (parts_among l.other.items)

abbrev pub decreases-loop-other : goal.decreases-loop-other
decreases-loop-other l = length (parts_among l.one.items)
