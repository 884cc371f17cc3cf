use Rattle.std.proofs.Common.{◌≡◌, length}
use Rattle.fv_rows.specs.Words.{VolumeNode, part_node}
use Rattle.fv_command.specs.Words.{part_at}
use Rattle.fv_command.proofs.packed.part_at.Given as goal

-- the rest of the path leads from this part to where the whole path leads
abbrev pub invariant-loop-number : goal.invariant-loop-number
invariant-loop-number l = part_at l.rest (part_node l.part) ≡ part_at l.fn.path (VolumeNode l.fn.volume)

abbrev pub decreases-loop-number : goal.decreases-loop-number
decreases-loop-number l = length l.rest
