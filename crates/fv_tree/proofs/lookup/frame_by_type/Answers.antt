use Rattle.std.proofs.Common.{rules, ◌==◌, ◌∙◌, List, Bool, sym, ap, tests}
use Rattle.fv_base.proofs.Laws.{YieldsList-from_filter, YieldsList-from_first, err_is}
use Rattle.fv_section.specs.Words.{FrameForm, frame_form}
use Rattle.fv_tree.specs.Words.{frame_of_type}
use Rattle.fv_tree.proofs.LookupLaws.{numbered_is}
use Rattle.fv_tree.proofs.lookup.frame_by_type.Goals as goal

pub returns-in_err-walk-clause-err : goal.returns-in_err-walk-clause-err
returns-in_err-walk-clause-err c = rw (err_is c.from_residual.ensures.1) c.in_err-walk.ensures.none

pub returns-clause-ok : goal.returns-clause-ok
returns-clause-ok c = λ fs t split.
    let left : List FrameForm = c.in_ok-walk.walk.0 in
    let test : FrameForm → Bool = λ f. f.kind == c.args.kind in
    numbered_is c.numbered.result c.args.instance c.numbered.ensures.zero c.numbered.ensures.nth (YieldsList-from_filter _ test
    (YieldsList-from_first frame_form (λ w. w.0) left (cc)) c.filter-frames.ensures.closure (λ x r q k. search (rules, tests))) ∙ ap (frame_of_type
    c.args.kind c.args.instance) (sym (c.in_ok-walk.ensures.only fs t split).0)
