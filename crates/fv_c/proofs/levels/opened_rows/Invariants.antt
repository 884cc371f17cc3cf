use Rattle.std.proofs.Common.{◌≡◌, take}
use Rattle.fv_c.specs.ReportedLevels.{opened_rows}
use Rattle.fv_c.proofs.levels.opened_rows.Given as goal

abbrev pub invariant-loop-number : goal.invariant-loop-number
invariant-loop-number l = l.rows.items ≡ opened_rows (take l.number l.levels.sources)
