use Rattle.fv_base.proofs.Laws.{take, flat_map}
use Rattle.fv_file.specs.Words.{cell_form}
use Rattle.fv_lines.specs.Words.{cell_line}
use Rattle.fv_lines.proofs.cell_text.put_list.Given as goal

abbrev pub invariant-loop-cell : goal.invariant-loop-cell
invariant-loop-cell g l =
    g.S.Sink.takes l.initial.out (flat_map (λ cell. cell_line (cell_form cell)) (take l.cell-index l.list)) l.out
