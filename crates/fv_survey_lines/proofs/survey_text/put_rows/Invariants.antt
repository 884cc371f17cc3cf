use Rattle.std.proofs.Common.{length}
use Rattle.fv_survey_lines.specs.inner.Totalled.{ArePut}
use Rattle.fv_survey_lines.proofs.survey_text.put_rows.Given as goal

abbrev pub invariant-loop-walk : goal.invariant-loop-walk
invariant-loop-walk g l = ArePut g.S.Sink.takes l.initial.walk l.initial.out l.out l.walk l.totals

abbrev pub decreases-loop-walk : goal.decreases-loop-walk
decreases-loop-walk g l = length l.walk
