use Rattle.std.proofs.Common.{◌≡◌, ◌%◌, ◌≤◌, length, drop}
use Rattle.fv_placement.specs.inner.Reaches.{AreReaches, CanPlace, IsReach}
use Rattle.fv_placement.proofs.PlacementLaws.{PlacedUpto}
use Rattle.fv_placement.proofs.first_placement.place_each.Given as goal

abbrev pub invariant-loop-i : goal.invariant-loop-i
invariant-loop-i l = record {
  eighth : l.edge % 8 ≡ 0;
  within : l.edge ≤ l.total;
  placed : PlacedUpto l.total l.first l.items l.edge (drop l.i l.items) l.starts.items;
  can : length l.reaches ≡ length l.items → AreReaches (IsReach l.total) l.items l.reaches → CanPlace l.total l.first l.items
      → CanPlace l.total l.edge (drop l.i l.items);
}
