use Rattle.std.proofs.Common.{length}
use Rattle.fv_c.specs.ReportedVariables.{reported_variable_row}
use Rattle.fv_c.specs.inner.ListedRows.{IsListed}
use Rattle.fv_c.proofs.variables.put_rows.Given as goal

abbrev pub invariant-loop-row : goal.invariant-loop-row
invariant-loop-row l = IsListed reported_variable_row l.fn.walk l.count l.walk l.initial.rows l.rows

abbrev pub decreases-loop-row : goal.decreases-loop-row
decreases-loop-row l = length l.walk
