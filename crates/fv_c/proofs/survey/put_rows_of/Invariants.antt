use Rattle.std.proofs.Common.{length}
use Rattle.fv_c.specs.ReportedSurvey.{reported_row}
use Rattle.fv_c.specs.inner.ListedRows.{IsListed}
use Rattle.fv_c.proofs.survey.put_rows_of.Given as goal

abbrev pub invariant-loop-walk : goal.invariant-loop-walk
invariant-loop-walk l = IsListed reported_row l.fn.walk l.count l.walk l.initial.rows l.rows

abbrev pub decreases-loop-walk : goal.decreases-loop-walk
decreases-loop-walk l = length l.walk
