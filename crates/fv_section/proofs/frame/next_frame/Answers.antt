use Rattle.fv_base.proofs.Laws.{◌∙◌, sym, arith, IfErr-weaker, err_is, First}
use Rattle.fv_section.specs.Words.{frame_form}
use Rattle.fv_section.proofs.FrameLemmas.{verdict_rest, verdict_stands, stands_verdict, verdict_first, none_stands, other_verdict}
use Rattle.fv_section.proofs.frame.next_frame.Goals as goal

pub returns-clause-found : goal.returns-clause-found
returns-clause-found c =
    verdict_stands c.args.at c.args.stream.now (frame_form c.in_ok-frame.frame) (omega arith)
    (sym (verdict_rest c.args.at c.args.stream.now) ∙ c.in_ok-frame.ensures.found)

pub returns-clause-only : goal.returns-clause-only
returns-clause-only c = λ g stands.
    other_verdict _ (frame_form c.in_ok-frame.frame) g c.in_ok-frame.ensures.found
    (verdict_rest c.args.at c.args.stream.now ∙ stands_verdict c.args.at c.args.stream.now g stands)

pub returns-in_err-frame-clause-first : goal.returns-in_err-frame-clause-first
returns-in_err-frame-clause-first c =
    rw (err_is c.from_residual.ensures.1)
    (verdict_first c.args.at _ _ (sym (verdict_rest c.args.at c.args.stream.now) ∙ c.in_err-frame.ensures.rejected))

pub returns-in_err-frame-clause-none : goal.returns-in_err-frame-clause-none
returns-in_err-frame-clause-none c =
    IfErr-weaker c.from_residual.result _ _
    (λ e first g stands. none_stands First c.args.at c.args.stream.now e g first stands) (returns-in_err-frame-clause-first c)
