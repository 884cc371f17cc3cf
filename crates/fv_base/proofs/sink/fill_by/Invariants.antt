use Rattle.std.proofs.Common.{◌≤◌, ◌-◌, replicate}
use Rattle.fv_base.proofs.sink.fill_by.Given as goal

abbrev pub invariant-loop-left : goal.invariant-loop-left
invariant-loop-left g l = record {
  bound : l.left ≤ l.count;
  done : g.S.Sink.takes l.fn.out (replicate (l.count - l.left) l.byte) l.out;
}

abbrev pub decreases-loop-left : goal.decreases-loop-left
decreases-loop-left g l = l.left
