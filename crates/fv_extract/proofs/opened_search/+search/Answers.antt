use Rattle.std.proofs.Common.{◌∙◌, ap, inl, inr, refl, sym}
use Rattle.fv_base.proofs.Laws.{err_is}
use Rattle.fv_rows.specs.Words.{SectionNode}
use Rattle.fv_extract.specs.Words.{InVolume, Nowhere, PackedSearch}
use Rattle.fv_extract.proofs.SearchLemmas.{silent_part}
use Rattle.fv_extract.proofs.StepLemmas.{ended_from, going, packed_faulty, packed_opened, packed_skipped, stopped, unread_by}
use Rattle.fv_extract.proofs.opened_search.+search.Goals as goal

pub put_in_contents-returns-in-Err : goal.put_in_contents-returns-in-Err
put_in_contents-returns-in-Err g t c =
    let why = unread_by _ _ c.in-Err.ensures.rejected c.in-Err.ensures.memory in
    (Nowhere c.after_reading.result, inr (c.in-Err.fault, why, ap Nowhere c.after_reading.ensures), (refl, refl))

pub put_in_packed-returns-then-deeper-eq0 : goal.put_in_packed-returns-then-deeper-eq0
put_in_packed-returns-then-deeper-eq0 g t c =
    (Nowhere c.skip.result, rw c.if-deeper-eq0.true (ap Nowhere c.skip.ensures), (refl, refl))

pub put_in_packed-returns-in_default : goal.put_in_packed-returns-in_default
put_in_packed-returns-in_default g t c =
    let spent = sym c.limit.ensures ∙ c.in_default.is in
    let ends = packed_skipped _ _ _ _ c.if-deeper-eq0.false spent in
    (Nowhere c.skip-in_default.result, rw c.skip-in_default.ensures ends, (refl, refl))

pub put_in_packed-returns-in-Ok : goal.put_in_packed-returns-in-Ok
put_in_packed-returns-in-Ok g t c =
    let (end, ends, puts) = c.put_in_contents.ensures in
    let limit = sym c.limit.ensures ∙ c.in-Some.is in
    let inside = rw (c.after_opening-after.ensures, c.as_slice-bytes.ensures.value) at ends in
    (end, packed_opened _ _ _ _ end c.in-Some.limit _ c.if-deeper-eq0.false limit c.in-Ok.ensures.found inside, puts)

pub put_in_packed-returns-in-Err : goal.put_in_packed-returns-in-Err
put_in_packed-returns-in-Err g t c =
    let limit = sym c.limit.ensures ∙ c.in-Some.is in
    let ends = packed_faulty _ _ _ _ c.in-Some.limit c.in-Err.fault c.if-deeper-eq0.false limit c.in-Err.ensures.none c.in-Err.ensures.memory in
    (Nowhere c.after_fault.result, rw c.after_fault.ensures ends, (refl, refl))

pub put_in_part-returns-in-File : goal.put_in_part-returns-in-File
put_in_part-returns-in-File g t c = (Nowhere c.args.progress, rw c.in-File.is refl, (refl, refl))

pub put_in_part-returns-in-None : goal.put_in_part-returns-in-None
put_in_part-returns-in-None g t c =
    let none = sym (rw c.in-None.is at c.packed_frame.ensures) in
    let name = c.args.request.part.name in
    let ends = silent_part name (PackedSearch name c.args.deeper) c.args.progress (SectionNode c.in-Section.section) none in
    (Nowhere c.args.progress, rw c.in-Section.is ends, (refl, refl))

pub put_in_rows-loop-row-init : goal.put_in_rows-loop-row-init
put_in_rows-loop-row-init g t c = (tt, tt, refl, λ end ends. ends)

pub put_in_rows-returns-in_err-search : goal.put_in_rows-returns-in_err-search
put_in_rows-returns-in_err-search g t c =
    let (m, p, is, stops, kept) = stopped _ c.args.request _ _ _ _ (rw c.in_err-search.was at c.put_in_part.ensures) in
    let ends = c.loop-row.invariant.3 (InVolume m p) (rw c.in-Some.ensures.steps (inl (m, p, is, refl))) in (
      InVolume m p,
      rw (← c.into_iter-row-iterator.ensures.into_iter_gives) ends,
      rw (err_is c.from_residual.ensures.1) (stops, kept ∙ c.loop-row.invariant.2),
    )

pub put_in_rows-returns-in-Ended : goal.put_in_rows-returns-in-Ended
put_in_rows-returns-in-Ended g t c =
    let step = rw (c.in_ok-search.was, c.in-Ended.is) at c.put_in_part.ensures in
    let (m, p, is, puts) = ended_from _ c.args.request _ _ _ _ c.in-Ended.search c.loop-row.invariant.2 step in
    let ends = c.loop-row.invariant.3 (InVolume m p) (rw c.in-Some.ensures.steps (inl (m, p, is, refl))) in
    (InVolume m p, rw (← c.into_iter-row-iterator.ensures.into_iter_gives) ends, puts)

pub put_in_rows-loop-row-preserved : goal.put_in_rows-loop-row-preserved
put_in_rows-loop-row-preserved g t c =
    let (is, kept) = going _ c.args.request _ _ _ c.in-Going.next (rw (c.in_ok-search.was, c.in-Going.is) at c.put_in_part.ensures) in (
      tt,
      tt,
      kept ∙ c.loop-row.invariant.2,
      λ end more. c.loop-row.invariant.3 end (rw c.in-Some.ensures.steps (inr (c.in-Going.next, is, more))),
    )

pub put_in_rows-returns : goal.put_in_rows-returns
put_in_rows-returns g t c =
    let ends = c.loop-row.invariant.3 (Nowhere c.loop-row.so_far) (rw c.in-None.ensures.steps.0 refl) in
    (Nowhere c.loop-row.so_far, rw (← c.into_iter-row-iterator.ensures.into_iter_gives) ends, (refl, c.loop-row.invariant.2))
