use Rattle.std.proofs.lemmas.Grind.{common_steps}
use Rattle.std.proofs.Common.{subst, sym, arith}
use Rattle.fv_section.specs.Words.{IsText}
use Rattle.fv_section.proofs.SectionTextLemmas.{version_none}
use Rattle.fv_section.proofs.texts.version.Goals as goal

pub returns-in_err-text-clause-none : goal.returns-in_err-text-clause-none
returns-in_err-text-clause-none c =
    rw c.from_residual.ensures (λ build text is. version_none c.args.body.now build text
    (λ t h. c.in_err-text.ensures.none t (subst (λ u. IsText u t) (sym c.split_at.ensures.back) h)) is)

pub returns-then-body-lt-VERSION_STRING_OFFSET-clause-none : goal.returns-then-body-lt-VERSION_STRING_OFFSET-clause-none
returns-then-body-lt-VERSION_STRING_OFFSET-clause-none c = grind (arith, common_steps)
