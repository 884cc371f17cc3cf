use Rattle.std.proofs.Common.{◌≡◌, ◌∷◌, ◌++◌, [], length}
use Rattle.fv_rows.specs.Words.{AreRowLevels, rows_left_in}
use Rattle.fv_rows.proofs.tree_walk.TreeWalk.next_row.Given as goal

-- the levels are well formed, and no row has been taken from them yet
abbrev pub invariant-loop-part : goal.invariant-loop-part
invariant-loop-part l = record {
  levels : AreRowLevels 0 (l.self-inside.outer.items ++ l.self-inside.level ∷ []);
  left : rows_left_in 0 (l.initial.self-inside.outer.items ++ l.initial.self-inside.level ∷ [])
      ≡ rows_left_in 0 (l.self-inside.outer.items ++ l.self-inside.level ∷ []);
}

abbrev pub decreases-loop-part : goal.decreases-loop-part
decreases-loop-part l = length l.self-inside.outer.items
