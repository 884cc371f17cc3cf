use Rattle.std.proofs.Common.{◌++◌, length, map}
use Rattle.fv_section.specs.Words.{Splits, frame_form}
use Rattle.fv_section.proofs.frame_walk.frames.Given as goal

-- the frames in the list, and the frames that are left, are the frames of the stream
abbrev pub invariant-loop-frame : goal.invariant-loop-frame
invariant-loop-frame l = record { split : Splits (map frame_form l.list.items ++ l.walk.0) l.walk.1 l.stream }

abbrev pub decreases-loop-frame : goal.decreases-loop-frame
decreases-loop-frame l = length l.walk.0
