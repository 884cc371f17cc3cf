use Rattle.std.proofs.Common.{sym, ap, ◌∙◌, arith, below_more}
use Rattle.fv_variables.specs.Words.{begins_sign}
use Rattle.fv_variables.proofs.SignLaws.{sign_is}
use Rattle.fv_variables.proofs.sign.first_sign.Goals as goal

pub loop-at-preserved : goal.loop-at-preserved
loop-at-preserved c = record {
  within = omega (arith, c.loop-at-test.true);
  none = below_more _ _ c.loop-at.invariant.none
      (ap begins_sign (sym c.bytes_from.ensures) ∙ (sym c.begins_sign.ensures ∙ c.if-not-begins_sign.true));
}

pub returns-else-not-begins_sign-clause-is : goal.returns-else-not-begins_sign-clause-is
returns-else-not-begins_sign-clause-is c =
    sym (sign_is c.args.bytes.now c.loop-at.at c.loop-at.invariant.within c.loop-at.invariant.none
    (λ l. ap begins_sign (sym c.bytes_from.ensures) ∙ (sym c.begins_sign.ensures ∙ c.if-not-begins_sign.false)))

pub returns-after-loop-at-clause-is : goal.returns-after-loop-at-clause-is
returns-after-loop-at-clause-is c =
    sym (sign_is c.args.bytes.now c.loop-at.at c.loop-at.invariant.within c.loop-at.invariant.none
    (λ l. absurd (omega (arith, l, c.loop-at-test.false))))
