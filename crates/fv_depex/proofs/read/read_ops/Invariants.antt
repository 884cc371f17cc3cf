use Rattle.std.proofs.Common.{◌-◌, length}
use Rattle.fv_depex.proofs.OpReadLemmas.{OpsKept}
use Rattle.fv_depex.proofs.read.read_ops.Given as goal

abbrev pub invariant-loop-ops : goal.invariant-loop-ops
invariant-loop-ops l = OpsKept l.fn.phase l.fn.bytes l.ops.items l.at l.stage

abbrev pub decreases-loop-ops : goal.decreases-loop-ops
decreases-loop-ops l = length l.fn.bytes - l.at
