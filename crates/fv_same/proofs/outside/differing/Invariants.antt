use Rattle.std.proofs.Common.{◌≡◌, ◌+◌, ◌≤◌, drop}
use Rattle.fv_same.specs.Words.{differing}
use Rattle.fv_same.proofs.outside.differing.Given as goal

-- the bytes that differ so far, and those of the bytes that are left
abbrev pub invariant-loop-at : goal.invariant-loop-at
invariant-loop-at l =
    (l.count ≤ l.at) × (l.count + differing (drop l.at l.fn.one) (drop l.at l.fn.other) ≡ differing l.fn.one l.fn.other)
