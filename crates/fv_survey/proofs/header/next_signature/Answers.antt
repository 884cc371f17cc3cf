use Rattle.std.proofs.Common.{List, ℕ, length, ap, arith, length-drop}
use Rattle.fv_survey.proofs.StartLaws.{unsigned_before, unsigned_all, unsigned_short}
use Rattle.fv_survey.proofs.header.next_signature.Goals as goal

pub returns-then-bytes-lt-SIGNATURE_OFFSET-clause-none : goal.returns-then-bytes-lt-SIGNATURE_OFFSET-clause-none
returns-then-bytes-lt-SIGNATURE_OFFSET-clause-none c k l = unsigned_short c.args.bytes.now c.if-bytes-lt-SIGNATURE_OFFSET.true k

pub returns-in-Some-clause-within : goal.returns-in-Some-clause-within
returns-in-Some-clause-within c =
    let long = ap (λ (h : List ℕ). length h) c.bytes_from.ensures in
    omega (arith, c.in-Some.ensures.0.high, long, length-drop 40 c.args.bytes.now, c.if-bytes-lt-SIGNATURE_OFFSET.false)

pub returns-in-Some-clause-none : goal.returns-in-Some-clause-none
returns-in-Some-clause-none c =
    unsigned_before c.args.bytes.now c.bytes_from.result.now c.in-Some.before c.bytes_from.ensures c.in-Some.ensures.0.before

pub returns-in-None-clause-none : goal.returns-in-None-clause-none
returns-in-None-clause-none c k l = unsigned_all c.args.bytes.now c.bytes_from.result.now c.bytes_from.ensures c.in-None.ensures k
