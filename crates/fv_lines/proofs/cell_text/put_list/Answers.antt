use Rattle.std.proofs.Common.{take_all}
use Rattle.std.proofs.lemmas.List.Folds.{flat_map-map}
use Rattle.fv_file.specs.Words.{cell_form}
use Rattle.fv_lines.specs.Words.{cell_line}
use Rattle.fv_lines.proofs.CellSumLemmas.{fits_at}
use Rattle.fv_lines.proofs.cell_text.put_list.Goals as goal

pub put_cell-requires : goal.put_cell-requires
put_cell-requires g c = fits_at cell_form c.args.list.now c.loop-cell.cell-index _ c.loop-cell-test.true c.requires.each

pub returns : goal.returns
returns g c =
    rw (flat_map-map cell_line cell_form, ← take_all c.loop-cell.cell-index c.args.list.now c.loop-cell-test.false) c.loop-cell.invariant
