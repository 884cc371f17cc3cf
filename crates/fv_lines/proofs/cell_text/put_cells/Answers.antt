use Rattle.fv_base.proofs.Laws.{refl, err_is, or_more, want_known}
use Rattle.fv_lines.proofs.CellSumLemmas.{fit_together}
use Rattle.fv_lines.proofs.cell_text.put_cells.Goals as goal

pub returns-in_err-extent-clause-err : goal.returns-in_err-extent-clause-err
returns-in_err-extent-clause-err g c = rw (err_is c.from_residual.ensures.1) (or_more (want_known _) c.in_err-extent.ensures.err)

pub put_cell_lines-requires : goal.put_cell_lines-requires
put_cell_lines-requires g c = rw c.as_slice.ensures (fit_together _ _ _ c.in_ok-extent.ensures.found c.in_ok-extent.ensures.lies)

pub returns-clause-ok : goal.returns-clause-ok
returns-clause-ok g c =
    let tiled = rw (← c.as_slice.ensures) at c.in_ok-extent.ensures.found in
    (_, (c.in_ok-extent.extent, _, tiled, refl), c.put_cell_lines.ensures)
