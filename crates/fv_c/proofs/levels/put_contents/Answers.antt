use Rattle.std.proofs.Common.{◌≡◌, ◌+◌, ◌++◌, ◌∙◌, Some, ap, arith, drop, length, length-append, slice_get, sym, take}
use Rattle.fv_levels.specs.Words.{SourceForm, source_form}
use Rattle.fv_c.specs.ReportedLevels.{all_contents, source_contents}
use Rattle.fv_c.proofs.LevelRows.{flat_next, flat_room, not_past, put_next}
use Rattle.fv_c.proofs.levels.put_contents.Goals.{in-Some, in_default}
use Rattle.fv_c.proofs.levels.put_contents.Goals as goal

pub put_at-place-requires : goal.put_at-place-requires
put_at-place-requires c =
    let here : Some (source_form c.in-Some.source) ≡ slice_get c.args.levels.now.sources c.loop-number.number = rw c.in-Some.is at c.source.ensures.source in
    let room = flat_room source_contents c.args.levels.now.sources c.loop-number.number (source_form c.in-Some.source) here in
    let size = ap length c.source_contents.ensures in
    omega (arith, room, size, c.loop-number.invariant.0, c.loop-number.auto.buffer, c.requires)

pub loop-number-preserved : goal.loop-number-preserved
loop-number-preserved c = elim c.match-source.branch [
  | in-Some w ↦
      let s : SourceForm = source_form w.in-Some.source in
      let here : Some s ≡ slice_get c.args.levels.now.sources c.loop-number.number = rw w.in-Some.is at c.source.ensures.source in
      let end : c.match-source.place ≡ c.loop-number.place + length (source_contents s) =
      w.place-is ∙ w.put_at-place.ensures.place ∙ ap (λ b. c.loop-number.place + length b) w.source_contents.ensures in
      let by = w.buffer-is ∙ (rw w.source_contents.ensures at w.put_at-place.ensures.bytes) in
      let next = put_next source_contents c.args.levels.now.sources c.loop-number.number s here c.loop-number.place c.args.buffer.now c.loop-number.buffer
      c.match-source.buffer c.loop-number.invariant.0 c.loop-number.invariant.1 by in
      let more = ap length (flat_next source_contents c.args.levels.now.sources c.loop-number.number s here) in
      let both = length-append (all_contents (take c.loop-number.number c.args.levels.now.sources)) (source_contents s) in (
        omega (arith, end, c.loop-number.invariant.0, more, both),
        next ∙ ap (λ k. all_contents (take (c.loop-number.number + 1) c.args.levels.now.sources) ++ drop k c.args.buffer.now) (sym end),
      )
  | in_default w ↦
      absurd (not_past c.args.levels.now.sources c.loop-number.number (rw w.in_default.is at c.source.ensures.source)
      (omega (arith, c.loop-number-test.true, c.count-number-end.ensures)))
]
