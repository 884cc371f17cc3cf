use Rattle.std.proofs.Common.{◌≡◌, [], drop, reverse}
use Rattle.fv_depex.specs.inner.Ops.{evaluate_ops}
use Rattle.fv_depex.proofs.truth.evaluate_ops.Given as goal

abbrev pub invariant-loop-op : goal.invariant-loop-op
invariant-loop-op l =
    evaluate_ops l.fn.installed l.fn.ops [] ≡ evaluate_ops l.fn.installed (drop l.op-index l.fn.ops) (reverse l.stack.items)
