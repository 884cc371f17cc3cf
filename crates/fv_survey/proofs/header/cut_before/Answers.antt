use Rattle.std.proofs.Common.{List, ℕ, length, drop, ◌≡◌, ◌+◌, ◌-◌, true, false, sym, subst, ap, ◌∙◌, arith, length-drop}
use Rattle.fv_survey.specs.Words.{ends_after}
use Rattle.fv_survey.proofs.StartLaws.{passed}
use Rattle.fv_survey.proofs.StrictLaws.{unsigned_ends}
use Rattle.fv_survey.proofs.VolumeLaws.{cut_is}
use Rattle.fv_survey.proofs.header.cut_before.Goals as goal

pub loop-at-init : goal.loop-at-init
loop-at-init c = record {
  within = c.next_signature-at.ensures.within;
  none = λ k l m e. unsigned_ends m _ (c.next_signature-at.ensures.none k l);
}

pub loop-at-preserved : goal.loop-at-preserved
loop-at-preserved c =
    let bytes = c.args.bytes.now in
    let long = ap (λ (h : List ℕ). length h) c.bytes_from-in-loop-at.ensures in
    let next = c.next_signature-at-in-loop-at in
    let here : ends_after (c.args.len - c.loop-at.at) c.bytes_from.result.now ≡ false =
    sym c.ends_after.ensures ∙ c.if-ends_after.false in
    record {
      within = omega (arith, next.ensures.within, long, length-drop (c.loop-at.at + 1) bytes, c.loop-at-test.true, c.requires);
      none = passed (λ k d. (m : ℕ) → k + m ≡ c.args.len → ends_after m d ≡ false) bytes c.bytes_from.result.now
          c.bytes_from-in-loop-at.result.now c.loop-at.at next.result (λ k d none m e. unsigned_ends m d none) c.bytes_from.ensures
          c.bytes_from-in-loop-at.ensures c.loop-at.invariant.none
          (λ m e. subst (λ (n : ℕ). ends_after n c.bytes_from.result.now ≡ false) (omega (arith, e)) here) next.ensures.none;
    }

pub returns-then-ends_after-clause-is : goal.returns-then-ends_after-clause-is
returns-then-ends_after-clause-is c =
    let bytes = c.args.bytes.now in
    let here : ends_after (c.args.len - c.loop-at.at) c.bytes_from.result.now ≡ true =
    sym c.ends_after.ensures ∙ c.if-ends_after.true in
    let there = subst (λ (d : List ℕ). ends_after (c.args.len - c.loop-at.at) d ≡ true) c.bytes_from.ensures here in
    sym (cut_is c.args.len bytes c.loop-at.at (omega (arith, c.loop-at-test.true)) c.loop-at.invariant.none
    (λ l m e. subst (λ (n : ℕ). ends_after n (drop c.loop-at.at bytes) ≡ true) (omega (arith, e)) there))

pub returns-clause-is : goal.returns-clause-is
returns-clause-is c =
    let ended = c.loop-at-test.false in
    sym (cut_is c.args.len c.args.bytes.now c.args.len (omega arith) (λ k l. c.loop-at.invariant.none k (omega (arith, l, ended)))
    (λ l. absurd (omega (arith, l))))
