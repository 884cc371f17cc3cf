use Rattle.std.proofs.Common.{◌≡◌, ℕ, List, [], ◌++◌, length, ◌∙◌, None, Ok, option_map, inl, refl, sym, ap, arith}
use Rattle.fv_lines.specs.Words.{section_start}
use Rattle.fv_open.specs.Words.{opened_frame}
use Rattle.fv_section.specs.Words.{frame_form}
use Rattle.fv_opened.specs.Words.{PackedText, opened_text, spent_text, unopened_text}
use Rattle.fv_opened.proofs.PackedTextLemmas.{opened_is, packed_is, part_is, unopened_is}
use Rattle.fv_opened.proofs.RowDepthLemmas.{stream_shallow}
use Rattle.fv_opened.proofs.opened_list.+open.Goals as goal

pub put_contents-put_rows-requires : goal.put_contents-put_rows-requires
put_contents-put_rows-requires g t c κs within =
    (omega (arith, c.decreases), (within, (omega (arith, c.requires), rw c.of_stream.ensures (stream_shallow _ _ _ c.in-Ok.ensures.found))))

pub put_contents-returns-in-Ok : goal.put_contents-returns-in-Ok
put_contents-returns-in-Ok g t c =
    let (lines, rows, puts) = c.put_rows.ensures in
    (_, inl (_, _, c.in-Ok.ensures.found, (lines, rw c.of_stream.ensures at rows, refl)), g.S.Sink.laws.joined c.put.ensures puts)

pub put_rows-loop-row-init : goal.put_rows-loop-row-init
put_rows-loop-row-init g t c =
    (tt, tt, rw c.into_iter-row-iterator.ensures.into_iter_gives c.requires.rows, λ end t puts. puts)

pub put_rows-loop-row-preserved : goal.put_rows-loop-row-preserved
put_rows-loop-row-preserved g t c = (
  tt,
  tt,
  (rw c.in-Some.ensures.steps at c.loop-row.invariant.2).1,
  λ end t puts.
      let (here, part, put) = c.put_part-left.ensures in
      let (rest, more, later) = puts in
      c.loop-row.invariant.3 end t (rw c.in-Some.ensures.steps (_, (_, here, rest, part, refl, more), g.S.Sink.laws.joined put later)),
)

pub put_rows-returns : goal.put_rows-returns
put_rows-returns g t c =
    rw (← c.into_iter-row-iterator.ensures.into_iter_gives)
    (c.loop-row.invariant.3 c.loop-row.out c.loop-row.left (rw c.in-None.ensures.steps.0 ([], (refl, refl), g.S.Sink.laws.none _)))

pub put_packed-returns-in_default : goal.put_packed-returns-in_default
put_packed-returns-in_default g t c =
    let is = sym c.in_default.is ∙ c.limit.ensures in
    (spent_text, packed_is _ _ _ None _ spent_text _ c.if-level-eq0.false is (refl, refl), c.put_spent.ensures)

pub put_packed-returns-in-Ok : goal.put_packed-returns-in-Ok
put_packed-returns-in-Ok g t c =
    let (more, contents, put) = c.put_contents.ensures in
    let is = sym c.limit.ensures ∙ c.in-Some.is in
    let bytes : List ℕ = c.as_slice-bytes.result.now in
    let found : opened_frame c.in-Some.limit (frame_form c.args.frame.now) ≡ Ok (c.in-Ok.opened.way, c.as_slice-bytes.result.now) =
    rw c.as_slice-bytes.ensures.value c.in-Ok.ensures.found in (
      opened_text c.in-Ok.opened.way (length bytes) ++ more,
      opened_is c.args.level.deeper c.args.level.depth c.in-Some.limit c.args.budget c.put_contents.result (frame_form c.args.frame.now)
          c.in-Ok.opened.way bytes more c.if-level-eq0.false is found (rw c.after_opening.ensures at contents),
      g.S.Sink.laws.joined c.put_way.ensures put,
    )

pub put_packed-returns-in-Err : goal.put_packed-returns-in-Err
put_packed-returns-in-Err g t c =
    let is = sym c.limit.ensures ∙ c.in-Some.is in (
      unopened_text c.in-Err.fault,
      rw c.after_fault.ensures (unopened_is c.args.level.deeper c.args.level.depth c.in-Some.limit c.args.budget
          (frame_form c.args.frame.now) c.in-Err.fault c.if-level-eq0.false is c.in-Err.ensures.none c.in-Err.ensures.memory),
      c.put_unopened.ensures,
    )

pub put_part-returns-in-Some : goal.put_part-returns-in-Some
put_part-returns-in-Some g t c =
    let (more, packed, put) = c.put_packed.ensures in
    let is = sym c.packed_frame.ensures ∙ ap (option_map frame_form) c.in-Some.is in (
      section_start c.args.row.depth c.args.row.number c.in-Section.section ++ more,
      rw c.in-Section.is (part_is (PackedText c.args.deeper) c.args.row.depth c.args.row.number c.args.budget c.put_packed.result
          c.in-Section.section (frame_form c.in-Some.frame) more is packed),
      g.S.Sink.laws.joined c.put_section_start.ensures put,
    )
