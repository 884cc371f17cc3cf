use Rattle.std.proofs.Common.{◌≡◌, ◌≤◌, ◌-◌, slice_get}
use Rattle.fv_rows.specs.Words.{nodes_of}
use Rattle.fv_command.proofs.packed.nth_part.Given as goal

-- the parts that are left begin after the first parts, of which there are as many as turns of the loop
abbrev pub invariant-loop : goal.invariant-loop
invariant-loop l = record {
  bound : l.counter ≤ l.fn.number;
  same : slice_get (nodes_of l.fn.parts) l.fn.number ≡ slice_get (nodes_of l.left) (l.fn.number - l.counter);
}
