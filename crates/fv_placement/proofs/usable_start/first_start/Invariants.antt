use Rattle.std.proofs.Common.{◌≡◌, ℕ, ◌+◌, ◌-◌, ◌%◌, ◌^◌, ◌<◌, ◌≤◌}
use Rattle.fv_placement.specs.Words.{Lawful}
use Rattle.fv_placement.specs.inner.Reaches.{IsUsableStart}
use Rattle.fv_placement.proofs.usable_start.first_start.Given as goal

abbrev pub invariant-loop-start : goal.invariant-loop-start
invariant-loop-start l = record {
  pad : l.edge + 24 ≤ l.start;
  multiple : (l.start + l.item.header) % l.step ≡ 0;
  least : (t : ℕ) → Lawful l.edge l.item t → IsUsableStart l.total l.item l.after t → l.start ≤ t;
  small : l.start < 2 ^ 33;
}

abbrev pub decreases-loop-start : goal.decreases-loop-start
decreases-loop-start l = (l.after.greatest + 1) - l.start
