use Rattle.fv_lines.proofs.CellSumLemmas.{add_up}
use Rattle.fv_lines.proofs.further_laws.cells_add_up.Goals as goal

pub returns : goal.returns
returns c b e cells tiled = add_up b e cells tiled
