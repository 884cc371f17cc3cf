use Rattle.fv_base.proofs.Laws.{arith, ◌∙◌, sym, common_steps, first_front, first_whole, err_is}
use Rattle.fv_head.specs.Words.{leading_checks, later_checks}
use Rattle.fv_head.proofs.HeadCheckLemmas.{verdict_err, verdict_extent}
use Rattle.fv_head.proofs.header_checks.verdict.Goals as goal

pub returns-in_err-file_system : goal.returns-in_err-file_system
returns-in_err-file_system c =
    let b = c.args.bytes.now in
    rw (err_is c.from_residual.ensures.1)
    (sym (verdict_err _ b _ (first_front (leading_checks b) (later_checks b) _ c.in_err-file_system.ensures.err)))

pub returns-in_err-later_verdict : goal.returns-in_err-later_verdict
returns-in_err-later_verdict c =
    let b = c.args.bytes.now in
    rw (err_is c.from_residual-in_err-later_verdict.ensures.1) (sym (verdict_err _ b _
    (first_whole (leading_checks b) (later_checks b) c.in_ok-file_system.ensures.ok.0 ∙ c.in_err-later_verdict.ensures.err)))

pub returns : goal.returns
returns c = grind (arith, common_steps, verdict_extent, first_whole)
