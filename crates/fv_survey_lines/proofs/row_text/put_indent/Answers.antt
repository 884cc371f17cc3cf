use Rattle.std.proofs.Common.{◌≡◌, ◌-◌, suc, arith}
use Rattle.fv_survey_lines.proofs.row_text.put_indent.Goals as goal

pub loop-left-preserved : goal.loop-left-preserved
loop-left-preserved g c =
    let is : suc (c.loop-left.left - 1) ≡ c.loop-left.left = omega (arith, c.loop-left-test.true) in
    λ end puts. c.loop-left.invariant end (rw (← is) (g.S.Sink.laws.joined c.put.ensures puts))
