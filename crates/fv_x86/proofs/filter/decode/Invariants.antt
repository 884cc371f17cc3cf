use Rattle.std.proofs.Common.{◌≡◌, ◌<◌, ◌≤◌, ◌-◌, ◌++◌, [], length, take, drop}
use Rattle.fv_x86.specs.Words.{filtered, unfiltered}
use Rattle.fv_x86.proofs.filter.decode.Given as goal

-- the bytes before are filtered, and the others are as they were
abbrev pub invariant-loop-bytes : goal.invariant-loop-bytes
invariant-loop-bytes l = (l.at ≤ length l.bytes) × (l.opcodes < 8) × (take l.at l.bytes ++ filtered l.at l.opcodes [] (drop l.at l.bytes) ≡ unfiltered l.fn.bytes)

abbrev pub decreases-loop-bytes : goal.decreases-loop-bytes
decreases-loop-bytes l = length l.bytes - l.at
