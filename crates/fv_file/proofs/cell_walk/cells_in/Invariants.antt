use Rattle.std.proofs.Common.{length, map}
use Rattle.fv_file.specs.Words.{cell_form, Walked}
use Rattle.fv_file.proofs.cell_walk.cells_in.Given as goal

-- the walk passed the cells in the list
abbrev pub invariant-loop-list : goal.invariant-loop-list
invariant-loop-list l = Walked l.fn.walk (map cell_form l.list.items) l.walk

abbrev pub decreases-loop-list : goal.decreases-loop-list
decreases-loop-list l = length l.walk.rest
