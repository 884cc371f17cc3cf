use Rattle.fv_marks.proofs.CellStepLemmas.{cell_passed}
use Rattle.fv_marks.proofs.own_marks.span_at.Goals as goal

pub returns-in-Ok-Some-clause-some : goal.returns-in-Ok-Some-clause-some
returns-in-Ok-Some-clause-some c =
    rw c.span_of.ensures (cell_passed _ _ _ c.args.volume.now _ _ (rw (c.of-walk.ensures, c.in-Ok-Some.field-0-is) at c.in-Ok-Some.ensures.some) c.requires.within
    c.requires.multiple c.requires.at_multiple)
