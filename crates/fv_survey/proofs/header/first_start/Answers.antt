use Rattle.std.proofs.Common.{List, ℕ, length, ◌≡◌, ◌+◌, false, sym, ap, ◌∙◌, arith, length-drop}
use Rattle.fv_survey.specs.Words.{may_begin}
use Rattle.fv_survey.proofs.StartLaws.{passed, begins_signed, start_is}
use Rattle.fv_survey.proofs.header.first_start.Goals as goal

pub loop-at-preserved : goal.loop-at-preserved
loop-at-preserved c =
    let bytes = c.args.bytes.now in
    let long = ap (λ (h : List ℕ). length h) c.bytes_from-in-loop-at.ensures in
    let next = c.next_signature-at-in-loop-at in
    record {
      within = omega (arith, next.ensures.within, long, length-drop (c.loop-at.at + 1) bytes, c.loop-at-test.true);
      none = passed (λ k d. may_begin d ≡ false) bytes c.bytes_from.result.now c.bytes_from-in-loop-at.result.now c.loop-at.at next.result
          (λ k d. begins_signed d) c.bytes_from.ensures c.bytes_from-in-loop-at.ensures c.loop-at.invariant.none
          (sym c.may_begin.ensures ∙ c.if-not-may_begin.true) next.ensures.none;
    }

pub returns-else-not-may_begin-clause-is : goal.returns-else-not-may_begin-clause-is
returns-else-not-may_begin-clause-is c =
    sym (start_is c.args.bytes.now c.loop-at.at c.loop-at.invariant.within c.loop-at.invariant.none
    (λ l. ap may_begin (sym c.bytes_from.ensures) ∙ sym c.may_begin.ensures ∙ c.if-not-may_begin.false))

pub returns-after-loop-at-clause-is : goal.returns-after-loop-at-clause-is
returns-after-loop-at-clause-is c =
    sym (start_is c.args.bytes.now c.loop-at.at c.loop-at.invariant.within c.loop-at.invariant.none
    (λ l. absurd (omega (arith, l, c.loop-at-test.false))))
