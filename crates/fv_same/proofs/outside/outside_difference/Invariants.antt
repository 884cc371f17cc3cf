use Rattle.std.proofs.Common.{◌≡◌, ◌+◌, ◌-◌, ◌^◌, ◌≤◌, min, length}
use Rattle.fv_same.specs.Words.{all_differing, asides_among, asides_of}
use Rattle.fv_same.proofs.outside.outside_difference.Given as goal

-- the bytes that differ so far, and those of the bytes that are left
abbrev pub invariant-loop-other : goal.invariant-loop-other
invariant-loop-other l =
    (l.count ≤ 2 ^ 64 - 1)
    × (min (l.count + all_differing (asides_among l.one.items) (asides_among l.other.items)) (2 ^ 64 - 1)
    ≡ min (all_differing (asides_of l.fn.first) (asides_of l.fn.second)) (2 ^ 64 - 1))

abbrev pub decreases-loop-other : goal.decreases-loop-other
decreases-loop-other l = length (asides_among l.one.items) + length (asides_among l.other.items)
