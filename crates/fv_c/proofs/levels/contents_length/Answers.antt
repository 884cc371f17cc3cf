use Rattle.std.proofs.Common.{◌≡◌, Some, ap, arith, length, length-append, slice_get, take}
use Rattle.fv_levels.specs.Words.{source_form}
use Rattle.fv_c.specs.ReportedLevels.{all_contents, source_contents}
use Rattle.fv_c.proofs.LevelRows.{flat_next, not_past}
use Rattle.fv_c.proofs.levels.contents_length.Goals.{in-Some+in_ok-total, in_default}
use Rattle.fv_c.proofs.levels.contents_length.Goals as goal

pub loop-number-preserved : goal.loop-number-preserved
loop-number-preserved c = elim c.match-source.branch [
  | in-Some+in_ok-total w ↦
      let here : Some (source_form w.in-Some.source) ≡ slice_get c.args.levels.now.sources c.loop-number.number = rw w.in-Some.is at c.source.ensures.source in
      let next = ap length (flat_next source_contents c.args.levels.now.sources c.loop-number.number (source_form w.in-Some.source) here) in
      let size = ap length w.source_contents.ensures in
      let both = length-append (all_contents (take c.loop-number.number c.args.levels.now.sources)) (source_contents (source_form w.in-Some.source)) in
      omega (arith, w.total-is, w.in_ok-total.ensures.1, size, c.loop-number.invariant, next, both)
  | in_default w ↦
      absurd (not_past c.args.levels.now.sources c.loop-number.number (rw w.in_default.is at c.source.ensures.source)
      (omega (arith, c.loop-number-test.true, c.count-number-end.ensures)))
]
