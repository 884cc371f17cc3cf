use Rattle.std.proofs.Common.{◌≡◌, ◌+◌, ◌-◌, ◌%◌, ◌≤◌, ◌++◌, List, length}
use Rattle.fv_flash.specs.declared.scanner.FoundVolume.{FoundVolume}
use Rattle.fv_flash.specs.inner.FoundWalks.{VolumesFrom}
use Rattle.fv_flash.proofs.scanner.volumes.Given as goal

abbrev pub invariant-loop-volume : goal.invariant-loop-volume
invariant-loop-volume l = record {
  multiple : l.from % 8 ≡ 0;
  within : l.from ≤ length l.bytes;
  found : (vs : List FoundVolume) → VolumesFrom l.from l.bytes vs → VolumesFrom 0 l.bytes (l.list.items ++ vs);
}

abbrev pub decreases-loop-volume : goal.decreases-loop-volume
decreases-loop-volume l = length l.bytes + 1 - l.from
