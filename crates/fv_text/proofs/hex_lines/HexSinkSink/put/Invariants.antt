use Rattle.std.proofs.Common.{length, ◌-◌, ◌≤◌, take}
use Rattle.fv_text.specs.Words.{Lined}
use Rattle.fv_text.proofs.hex_lines.HexSinkSink.put.Given as goal

abbrev pub invariant-loop-at : goal.invariant-loop-at
invariant-loop-at g l =
    (l.at ≤ length l.bytes)
    × Lined g.S.Sink.takes l.fn.self.below (take l.fn.self.filled l.fn.self.line) (take l.at l.bytes) l.self.below (take l.self.filled l.self.line)

abbrev pub decreases-loop-at : goal.decreases-loop-at
decreases-loop-at g l = length l.bytes - l.at
