use Rattle.std.proofs.Common.{rules}
use Rattle.fv_base.proofs.Laws.{arith, common_steps}
use Rattle.fv_file.proofs.cell_walk.cell_at.Goals as goal

-- erased bytes show no cell
pub returns-in-Free-clause-found : goal.returns-in-Free-clause-found
returns-in-Free-clause-found c = tt

-- a header under construction, or an invalid header
pub returns-in_ok-check-in-Construction-clause-found : goal.returns-in_ok-check-in-Construction-clause-found
returns-in_ok-check-in-Construction-clause-found c = search rules fits 100 steps 300000

-- a file of one of the four states
pub returns-in_ok-head-in-HeaderValid-clause-found : goal.returns-in_ok-head-in-HeaderValid-clause-found
returns-in_ok-head-in-HeaderValid-clause-found c = grind (arith, common_steps)
