use Rattle.std.proofs.Common.{◌≡◌, ◌-◌, ◌+◌, suc, arith}
use Rattle.fv_survey_lines.proofs.row_text.put_findings.Goals as goal

pub loop-number-preserved : goal.loop-number-preserved
loop-number-preserved g c =
    let is : 32 - c.loop-number.number ≡ suc (32 - (c.loop-number.number + 1)) = omega (arith, c.loop-number-test.true) in
    let here = rw c.bits-bits.ensures at c.put_number-word.ensures.put in
    let word = rw c.bits-bits.ensures at c.put_number-word.ensures.word in
    λ end puts. c.loop-number.invariant end (rw is (g.S.Sink.laws.joined here (rw word at puts)))

pub returns : goal.returns
returns g c =
    let end : 32 - c.loop-number.number ≡ 0 = omega (arith, c.loop-number-test.false) in
    c.loop-number.invariant c.loop-number.out (rw end (g.S.Sink.laws.none _))
