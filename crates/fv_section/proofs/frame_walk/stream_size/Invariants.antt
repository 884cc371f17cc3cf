use Rattle.std.proofs.Common.{◌≡◌, ◌≤◌, ◌-◌, min, List, length, take}
use Rattle.fv_section.specs.Words.{FrameForm, Splits, up_to_4}
use Rattle.fv_section.proofs.frame_walk.stream_size.Given as goal

abbrev pub invariant-loop-frame : goal.invariant-loop-frame
invariant-loop-frame l = record {
  frames : (fs : List FrameForm) × Splits fs (min (up_to_4 l.end) (length l.stream) - l.end) (take (up_to_4 l.end) l.stream)
      × (length fs ≡ l.count);
  within : l.end ≤ length l.stream;
  few : l.count ≤ l.end;
}

abbrev pub decreases-loop-frame : goal.decreases-loop-frame
decreases-loop-frame l = length l.stream - l.end
