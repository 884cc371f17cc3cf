use Rattle.std.proofs.Common.{◌≡◌, take}
use Rattle.fv_flash.specs.Words.{offsets_of}
use Rattle.fv_flash.proofs.scanner.scan.Given as goal

abbrev pub invariant-loop-volume : goal.invariant-loop-volume
invariant-loop-volume l = l.offsets.items ≡ offsets_of (take l.volume-index l.volume-items)
