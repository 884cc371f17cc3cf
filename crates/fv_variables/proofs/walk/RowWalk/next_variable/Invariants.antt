use Rattle.std.proofs.Common.{◌≡◌, length}
use Rattle.fv_variables.specs.Words.{variables_of}
use Rattle.fv_variables.proofs.walk.RowWalk.next_variable.Given as goal

-- no variable was passed over
abbrev pub invariant-loop-row : goal.invariant-loop-row
invariant-loop-row l = variables_of l.fn.self ≡ variables_of l.self

abbrev pub decreases-loop-row : goal.decreases-loop-row
decreases-loop-row l = length l.self
