use Rattle.std.proofs.Common.{◌+◌, ◌*◌, ◌≤◌, length}
use Rattle.fv_file.proofs.StrideLemmas.{Counted}
use Rattle.fv_file.proofs.cell_walk.cell_count.Given as goal

abbrev pub invariant-loop-rest : goal.invariant-loop-rest
invariant-loop-rest l = Counted l.fn.polarity l.count l.fn.body l.rest × (24 * l.count + length l.rest ≤ length l.fn.body)

abbrev pub decreases-loop-rest : goal.decreases-loop-rest
decreases-loop-rest l = length l.rest
