use Rattle.std.proofs.Common.{drop}
use Rattle.fv_placement.specs.Words.{TopMisaligned}
use Rattle.fv_placement.proofs.first_placement.is_top_misaligned.Given as goal

abbrev pub invariant-loop-item : goal.invariant-loop-item
invariant-loop-item l = (TopMisaligned l.total (drop l.item-index l.items) → TopMisaligned l.total l.items)
    × (TopMisaligned l.total l.items → TopMisaligned l.total (drop l.item-index l.items))
