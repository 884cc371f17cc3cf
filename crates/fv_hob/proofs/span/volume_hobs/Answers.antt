use Rattle.std.proofs.lemmas.Grind.{common_steps}
use Rattle.std.proofs.Common.{◌≡◌, ◌++◌, ◌<◌, [], ap, subst, sym, ◌∙◌, List, length, get_or, Vec, Global, arith, take_all}
use Rattle.fv_base.proofs.Laws.{cons_option, err_is}
use Rattle.fv_hob.specs.Words.{HobForm}
use Rattle.fv_hob.specs.declared.span.Span.{Span}
use Rattle.fv_hob.proofs.WriteLemmas.{has_span, spans_more, span_none, span_some}
use Rattle.fv_hob.proofs.span.volume_hobs.Goals.{in-Some+in_ok-push, in_default}
use Rattle.fv_hob.proofs.span.volume_hobs.Goals as goal

pub loop-hob-preserved : goal.loop-hob-preserved
loop-hob-preserved c =
    let same = c.as_slice-hob-items.ensures.blocks in
    let h = c.hob-item.result in
    let new : c.match-span.list.items ≡ c.loop-hob.list.items ++ cons_option c.span.result [] =
    elim c.match-span.branch [
      | in-Some+in_ok-push w ↦ span_some c.span.result w.in-Some.span c.loop-hob.list.items c.match-span.list.items w.in-Some.is
          (ap (λ (v : Vec Span Global). v.items) w.list-is ∙ w.in_ok-push.ensures.items)
      | in_default w ↦ span_none c.span.result c.loop-hob.list.items c.match-span.list.items w.in_default.is
          (ap (λ (v : Vec Span Global). v.items) w.list-is)
    ] in
    spans_more c.args.hobs.now c.loop-hob.hob-index h c.span.result c.loop-hob.list.items c.match-span.list.items
    (subst (λ (l : List HobForm). c.loop-hob.hob-index < length l) same c.loop-hob-test.true)
    (c.hob-item.is ∙ ap (λ (l : List HobForm). get_or l c.loop-hob.hob-index h) same) c.span.ensures c.loop-hob.invariant new

pub loop-hob-init : goal.loop-hob-init
loop-hob-init c = c.new-list.ensures.items

pub loop-hob-smaller : goal.loop-hob-smaller
loop-hob-smaller c = omega arith

pub returns-clause-spans : goal.returns-clause-spans
returns-clause-spans c = grind (arith, common_steps, take_all)

pub returns-in_err-push-clause-some : goal.returns-in_err-push-clause-some
returns-in_err-push-clause-some c =
    let same = c.as_slice-hob-items.ensures.blocks in
    let h = c.hob-item.result in
    rw (err_is c.from_residual.ensures.1) (has_span c.args.hobs.now c.loop-hob.hob-index h c.in-Some.span
    (subst (λ (l : List HobForm). c.loop-hob.hob-index < length l) same c.loop-hob-test.true)
    (c.hob-item.is ∙ ap (λ (l : List HobForm). get_or l c.loop-hob.hob-index h) same) (sym c.span.ensures ∙ c.in-Some.is))
