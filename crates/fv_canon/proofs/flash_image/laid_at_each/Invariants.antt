use Rattle.std.proofs.Common.{take}
use Rattle.fv_flash.specs.Words.{offsets_of}
use Rattle.fv_canon.specs.Words.{AreLaid}
use Rattle.fv_canon.proofs.flash_image.laid_at_each.Given as goal

abbrev pub invariant-loop-volume : goal.invariant-loop-volume
invariant-loop-volume l = AreLaid l.image (offsets_of (take l.volume-index l.found)) l.volumes.items
