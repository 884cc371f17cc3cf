use Rattle.std.proofs.Common.{◌≢◌, arith}
use Rattle.fv_base.proofs.Laws.{not_equal}
use Rattle.fv_survey_lines.proofs.totals.put_sum.Goals as goal

pub returns-then-sum-gt0 : goal.returns-then-sum-gt0
returns-then-sum-gt0 g c =
    let some : c.args.sum ≢ 0 = omega (arith, c.if-sum-gt0.true) in
    rw (not_equal c.args.sum 0 some) c.put_count.ensures
