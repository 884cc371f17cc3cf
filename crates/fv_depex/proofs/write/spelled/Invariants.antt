use Rattle.std.proofs.Common.{◌≡◌, take}
use Rattle.fv_depex.specs.Words.{ops_bytes}
use Rattle.fv_depex.proofs.write.spelled.Given as goal

abbrev pub invariant-loop-op : goal.invariant-loop-op
invariant-loop-op l = l.bytes.items ≡ ops_bytes (take l.op-index l.fn.ops)
