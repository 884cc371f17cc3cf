use Rattle.fv_survey.specs.declared.row.RowKind.TheVariants as kinds
use Rattle.fv_text.proofs.Laws.{texts_next}
use Rattle.fv_survey_lines.specs.Words.{leaf_kinds, sum_text}
use Rattle.fv_survey_lines.specs.inner.Totalled.{sum_in}
use Rattle.fv_survey_lines.proofs.totals.put_sums.Goals as goal

pub loop-kind-preserved : goal.loop-kind-preserved
loop-kind-preserved g c =
    let here = rw c.sum_in.ensures at c.put_sum.ensures in
    rw (texts_next (λ kind. sum_text kind (sum_in c.args.sums.now kind)) leaf_kinds c.loop-kind.kind-index kinds.Volume c.loop-kind-test.true)
    (g.S.Sink.laws.joined c.loop-kind.invariant here)
