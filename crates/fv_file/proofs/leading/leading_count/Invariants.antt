use Rattle.std.proofs.Common.{◌≡◌, ◌≤◌, ◌+◌, ◌-◌, length, drop}
use Rattle.fv_file.specs.Words.{leading_count}
use Rattle.fv_file.proofs.leading.leading_count.Given as goal

abbrev pub invariant-loop-at : goal.invariant-loop-at
invariant-loop-at l =
    (l.at ≤ length l.fn.bytes) × (leading_count l.fn.byte l.fn.bytes ≡ l.at + leading_count l.fn.byte (drop l.at l.fn.bytes))

abbrev pub decreases-loop-at : goal.decreases-loop-at
decreases-loop-at l = length l.fn.bytes - l.at
