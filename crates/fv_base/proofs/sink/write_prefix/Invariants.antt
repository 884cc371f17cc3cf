use Rattle.std.proofs.Common.{◌≡◌, length, take, ◌-◌, ◌≤◌}
use Rattle.std.specs.Io.KnownBytes.{Appends}
use Rattle.fv_base.specs.Words.{inner_of, has_erred}
use Rattle.fv_base.proofs.sink.write_prefix.Given as goal

abbrev pub invariant-loop-at : goal.invariant-loop-at
invariant-loop-at g l =
    (l.at ≤ length l.bytes)
    × Appends (g.W.Write.contents (inner_of l.initial.port)) (g.W.Write.contents (inner_of l.port)) (take l.at l.bytes)
    × (has_erred l.port ≡ has_erred l.initial.port)

abbrev pub decreases-loop-at : goal.decreases-loop-at
decreases-loop-at g l = length l.bytes - l.at
