use Rattle.std.proofs.Common.{◌≡◌, drop}
use Rattle.fv_tree.specs.Words.{entries_eq}
use Rattle.fv_tree.proofs.head_difference.same_entries.Given as goal

abbrev pub invariant-loop-i : goal.invariant-loop-i
invariant-loop-i l = entries_eq l.a l.b ≡ entries_eq (drop l.i l.a) (drop l.i l.b)
