use Rattle.std.proofs.Common.{◌≡◌, ℕ, ◌+◌, ◌<◌, ◌≤◌, length, drop, get_or}
use Rattle.fv_placement.specs.inner.Reaches.{IsReach}
use Rattle.fv_placement.specs.declared.reach.Reach.{Reach}
use Rattle.fv_placement.proofs.first_placement.find_reaches.Given as goal

abbrev pub invariant-loop-left : goal.invariant-loop-left
invariant-loop-left l = record {
  bound : l.left ≤ length l.items;
  len : length l.reaches ≡ length l.items;
  here : IsReach l.total (drop l.left l.items) l.reach;
  each : (i : ℕ) (d : Reach) → l.left ≤ i → i < length l.items → IsReach l.total (drop (i + 1) l.items) (get_or l.reaches i d);
}

abbrev pub decreases-loop-left : goal.decreases-loop-left
decreases-loop-left l = l.left
