use Rattle.std.proofs.Common.{◌≡◌, ◌<◌, ◌&&◌, ap, refl, arith, length}
use Rattle.fv_level_lines.specs.Words.{sources_lines}
use Rattle.fv_level_lines.proofs.LineLemmas.{left_all, left_front, left_more}
use Rattle.fv_level_lines.proofs.SourceLemmas.{clean_next, some_source}
use Rattle.fv_level_lines.proofs.level_text.put_sources.Goals as goal
use Rattle.fv_level_lines.proofs.level_text.put_sources.Goals.{then-clean, else-clean}
use Rattle.fv_survey_lines.proofs.Laws.{on_err}

pub loop-number-init : goal.loop-number-init
loop-number-init g c = (left_all g.S.Sink.laws _ _, refl)

pub loop-number-preserved : goal.loop-number-preserved
loop-number-preserved g c =
    let within : c.loop-number.number < length c.args.levels.now.sources = omega (arith, c.loop-number-test.true, c.count-number-end.ensures) in
    let some = some_source c.args.levels.now.sources c.loop-number.number within in
    let here = c.in_ok-source_is_clean.ensures in
    let grown : c.if-clean.clean ≡ (c.loop-number.clean && c.in_ok-source_is_clean.source_is_clean) =
    elim c.if-clean.branch [ then-clean w ↦ rw w.if-clean.true w.clean-is | else-clean w ↦ rw (w.clean-is, w.if-clean.false) refl ] in (
      left_more g.S.Sink.laws _ _ (ap (sources_lines c.loop-number.number) some.2) c.loop-number.invariant.0 (here.text some.0 some.1),
      clean_next _ _ _ some.0 _ _ _ _ some.2 (here.clean some.0 some.1) grown c.loop-number.invariant.1,
    )

pub returns-in_err-source_is_clean-clause-front : goal.returns-in_err-source_is_clean-clause-front
returns-in_err-source_is_clean-clause-front g c =
    let within : c.loop-number.number < length c.args.levels.now.sources = omega (arith, c.loop-number-test.true, c.count-number-end.ensures) in
    let some = some_source c.args.levels.now.sources c.loop-number.number within in
    on_err c.from_residual.result (left_front g.S.Sink.laws _ _ (ap (sources_lines c.loop-number.number) some.2) c.loop-number.invariant.0
    (c.in_err-source_is_clean.ensures.front some.0 some.1))
