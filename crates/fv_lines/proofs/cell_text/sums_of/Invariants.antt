use Rattle.std.proofs.Common.{◌≡◌, map, take}
use Rattle.fv_file.specs.Words.{cell_form}
use Rattle.fv_lines.specs.Words.{sums_of}
use Rattle.fv_lines.proofs.cell_text.sums_of.Given as goal

abbrev pub invariant-loop-cell : goal.invariant-loop-cell
invariant-loop-cell l = l.sums ≡ sums_of (map cell_form (take l.cell-index l.list))
