use Rattle.std.proofs.Common.{◌∙◌, sym}
use Rattle.fv_file.specs.Words.{cell_form}
use Rattle.fv_lines.proofs.CellSumLemmas.{counted_next, sums_next}
use Rattle.fv_lines.proofs.cell_text.sums_of.Goals as goal

pub with_cell-sums-requires : goal.with_cell-sums-requires
with_cell-sums-requires c =
    rw c.loop-cell.invariant (counted_next cell_form c.args.list.now c.loop-cell.cell-index _ c.loop-cell-test.true c.requires)

pub loop-cell-preserved : goal.loop-cell-preserved
loop-cell-preserved c =
    (rw c.loop-cell.invariant at c.with_cell-sums.ensures)
    ∙ sym (sums_next cell_form c.args.list.now c.loop-cell.cell-index _ c.loop-cell-test.true)
