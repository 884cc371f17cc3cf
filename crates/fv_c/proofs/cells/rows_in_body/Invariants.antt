use Rattle.std.proofs.Common.{◌≡◌, List, drop, length, map}
use Rattle.fv_file.specs.Words.{CellForm, Walked, left_at}
use Rattle.fv_c.specs.ReportedCells.{reported_cell}
use Rattle.fv_c.proofs.cells.rows_in_body.Given as goal

-- the walk passed some cells, whose reports are the rows
abbrev pub invariant-loop-rows : goal.invariant-loop-rows
invariant-loop-rows l = (cs : List CellForm)
    × Walked (left_at l.extent.file_system l.extent.polarity l.extent.first (drop l.extent.first l.volume)) cs l.walk
    × (l.rows.items ≡ map reported_cell cs)

abbrev pub decreases-loop-rows : goal.decreases-loop-rows
decreases-loop-rows l = length l.walk.rest
