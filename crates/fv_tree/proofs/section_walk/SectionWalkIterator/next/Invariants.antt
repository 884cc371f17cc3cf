use Rattle.std.proofs.Common.{◌≡◌, ◌∷◌, ◌++◌, [], length}
use Rattle.fv_tree.specs.Words.{AreLevels, left_in}
use Rattle.fv_tree.proofs.section_walk.SectionWalkIterator.next.Given as goal

-- the levels are well formed, and no section has been taken from them yet
abbrev pub invariant-loop-section : goal.invariant-loop-section
invariant-loop-section l = record {
  levels : AreLevels 0 (l.self-inside.outer.items ++ l.self-inside.sections ∷ []);
  left : left_in (l.initial.self-inside.outer.items ++ l.initial.self-inside.sections ∷ [])
      ≡ left_in (l.self-inside.outer.items ++ l.self-inside.sections ∷ []);
}

abbrev pub decreases-loop-section : goal.decreases-loop-section
decreases-loop-section l = length l.self-inside.outer.items
