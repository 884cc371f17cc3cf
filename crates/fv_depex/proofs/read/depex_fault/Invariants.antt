use Rattle.std.proofs.Common.{List, ◌-◌, length}
use Rattle.fv_depex.specs.declared.op.Op.{Op}
use Rattle.fv_depex.proofs.OpReadLemmas.{OpsKept}
use Rattle.fv_depex.proofs.read.depex_fault.Given as goal

abbrev pub invariant-loop-op : goal.invariant-loop-op
invariant-loop-op l = (ops : List Op) × OpsKept l.fn.phase l.fn.bytes ops l.at l.stage

abbrev pub decreases-loop-op : goal.decreases-loop-op
decreases-loop-op l = length l.fn.bytes - l.at
