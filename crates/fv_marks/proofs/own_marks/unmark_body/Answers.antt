use Rattle.fv_marks.proofs.OwnMarkLemmas.{begun, ended, marked, passed}
use Rattle.fv_marks.proofs.own_marks.unmark_body.Goals as goal

pub loop-span-init : goal.loop-span-init
loop-span-init c = begun _ _ _ c.args.volume.now c.requires.within c.requires.first_multiple

pub loop-span-preserved : goal.loop-span-preserved
loop-span-preserved c =
    passed _ _ _ _ _ _ (marked _ _ _ _ _ _ c.loop-span.invariant _ c.span_unmarked.ensures.mark) _ c.in-Some.ensures.some.0 c.in-Some.ensures.some.1

pub returns : goal.returns
returns c = ended _ _ _ _ _ _ (marked _ _ _ _ _ _ c.loop-span.invariant _ c.span_unmarked.ensures.mark) c.in_default.ensures.none
