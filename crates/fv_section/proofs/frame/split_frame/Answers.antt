use Rattle.std.proofs.Common.{arith}
use Rattle.std.proofs.lemmas.Grind.{common_steps}
use Rattle.fv_section.proofs.frame.split_frame.Goals.{then-extended, else-extended}
use Rattle.fv_section.proofs.frame.split_frame.Goals as goal

pub after_frame-requires : goal.after_frame-requires
after_frame-requires c =
    elim c.if-extended.branch [
      | then-extended w ↦ grind (arith, common_steps)
      | else-extended w ↦ grind (arith, common_steps)
    ]

pub slice_bounds-frame-end : goal.slice_bounds-frame-end
slice_bounds-frame-end c =
    elim c.if-extended.branch [
      | then-extended w ↦ grind (arith, common_steps)
      | else-extended w ↦ grind (arith, common_steps)
    ]
