use Rattle.std.proofs.Common.{◌≡◌, ◌++◌, ◌∙◌, Some, ap, arith, slice_get, sym}
use Rattle.fv_levels.specs.Words.{source_form}
use Rattle.fv_c.specs.ReportedLevels.{source_row}
use Rattle.fv_c.proofs.LevelRows.{flat_next, not_past}
use Rattle.fv_c.proofs.levels.opened_rows.Goals.{in-Some+in_ok-add_source, in_default}
use Rattle.fv_c.proofs.levels.opened_rows.Goals as goal

pub loop-number-preserved : goal.loop-number-preserved
loop-number-preserved c = elim c.match-source.branch [
  | in-Some+in_ok-add_source w ↦
      let here : Some (source_form w.in-Some.source) ≡ slice_get c.args.levels.now.sources c.loop-number.number = rw w.in-Some.is at c.source.ensures.source in
      ap (λ v. v.items) w.rows-is ∙ w.in_ok-add_source.ensures.ok ∙ ap (λ l. l ++ source_row (source_form w.in-Some.source)) c.loop-number.invariant
      ∙ sym (flat_next source_row c.args.levels.now.sources c.loop-number.number (source_form w.in-Some.source) here)
  | in_default w ↦
      absurd (not_past c.args.levels.now.sources c.loop-number.number (rw w.in_default.is at c.source.ensures.source)
      (omega (arith, c.loop-number-test.true, c.count-number-end.ensures)))
]
