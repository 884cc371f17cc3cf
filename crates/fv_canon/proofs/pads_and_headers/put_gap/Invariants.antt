use Rattle.std.proofs.Common.{◌≡◌, ◌≤◌, ◌%◌}
use Rattle.fv_canon.specs.Words.{gap_bytes}
use Rattle.fv_canon.proofs.ImageParts.{TakesFront}
use Rattle.fv_canon.proofs.pads_and_headers.put_gap.Given as goal

abbrev pub invariant-loop-left : goal.invariant-loop-left
invariant-loop-left g l = record {
  least : 24 ≤ l.left;
  most : l.left ≤ l.gap;
  multiple : l.left % 8 ≡ 0;
  done : TakesFront g.S.Sink.takes l.initial.out l.out (gap_bytes l.polarity l.gap) (gap_bytes l.polarity l.left);
}

abbrev pub decreases-loop-left : goal.decreases-loop-left
decreases-loop-left g l = l.left
