use Rattle.std.proofs.Common.{◌≡◌, ◌∙◌, List, Some, ap, map, subst, take, take_all}
use Rattle.fv_survey.specs.declared.row.Row.{Row}
use Rattle.fv_levels.specs.Words.{SourceForm, packed_rows, section_in, source_form}
use Rattle.fv_levels.specs.inner.Opening.{GoesOver}
use Rattle.fv_levels.proofs.RunLemmas.{goes_on, goes_row, still}
use Rattle.fv_levels.proofs.opening.open_source.Goals as goal

pub loop-row-preserved : goal.loop-row-preserved
loop-row-preserved c = λ s is.
    let before = c.loop-row.invariant s is in
    let here = c.in_ok-next.ensures.over s (still _ _ _ s (goes_on _ _ _ _ _ before) is) in
    goes_row (section_in c.args.number s) c.deref-row-items.result.now c.loop-row.row-index _ _ _ _ _ _ _ c.loop-row-test.true before here

pub returns-clause-over : goal.returns-clause-over
returns-clause-over c = λ s is.
    let own : Some (source_form c.in-Some.source) ≡ Some s = c.in-Some.ensures.source ∙ is in
    let same : source_form c.in-Some.source ≡ s = cc in
    let rows : take c.loop-row.row-index c.deref-row-items.result.now ≡ packed_rows s =
    take_all c.loop-row.row-index c.deref-row-items.result.now c.loop-row-test.false ∙ c.deref-row-items.ensures.value
    ∙ c.in_ok-rows.ensures.rows ∙ ap (λ (x : SourceForm). packed_rows x) same in
    subst (λ (rows : List Row). GoesOver c.args.levels.now c.args.progress (map (section_in c.args.number s) rows) c.loop-row.levels c.loop-row.next)
    rows (c.loop-row.invariant s is)
