use Rattle.std.proofs.Common.{◌≡◌, ◌++◌, map, take}
use Rattle.fv_c.specs.ReportedLevels.{closed_row}
use Rattle.fv_c.proofs.levels.add_closed.Given as goal

abbrev pub invariant-loop-section : goal.invariant-loop-section
invariant-loop-section l = l.rows.items ≡ l.fn.rows.items ++ map closed_row (take l.section-index l.closed)
