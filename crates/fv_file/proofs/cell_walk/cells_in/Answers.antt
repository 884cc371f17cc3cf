use Rattle.fv_base.proofs.Laws.{arith, err_is, common_steps}
use Rattle.fv_file.proofs.BodyLemmas.{more_read}
use Rattle.fv_file.proofs.CellFaultLemmas.{body_within}
use Rattle.fv_file.proofs.CellWalkLemmas.{walked_on, walk_fails}
use Rattle.fv_file.proofs.cell_walk.cells_in.Goals as goal

pub returns-in_err-cell-clause-first : goal.returns-in_err-cell-clause-first
returns-in_err-cell-clause-first c =
    rw (err_is c.from_residual-in_err-cell.ensures.1) (λ memory. walk_fails _ _ _ _ c.loop-list.invariant c.in_err-cell.ensures.first.0)

pub returns-in_err-cell-clause-bound : goal.returns-in_err-cell-clause-bound
returns-in_err-cell-clause-bound c =
    rw (err_is c.from_residual-in_err-cell.ensures.1) (body_within _ _ _ _ _ (walk_fails _ _ _ _ c.loop-list.invariant c.in_err-cell.ensures.first.0))

pub loop-list-preserved : goal.loop-list-preserved
loop-list-preserved c = grind (arith, common_steps, more_read, walked_on)

pub loop-list-smaller : goal.loop-list-smaller
loop-list-smaller c = grind (arith, common_steps)

pub returns-in_err-cell-clause-some : goal.returns-in_err-cell-clause-some
returns-in_err-cell-clause-some c = grind (arith, common_steps)

pub returns-in_err-push-clause-some : goal.returns-in_err-push-clause-some
returns-in_err-push-clause-some c = grind (arith, common_steps)
