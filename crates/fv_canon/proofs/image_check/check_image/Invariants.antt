use Rattle.std.proofs.Common.{take}
use Rattle.fv_flash.specs.Words.{offsets_of}
use Rattle.fv_canon.specs.Words.{AreChecked}
use Rattle.fv_canon.proofs.image_check.check_image.Given as goal

abbrev pub invariant-loop-volume : goal.invariant-loop-volume
invariant-loop-volume l = AreChecked l.image (offsets_of (take l.volume-index l.volume-items)) l.checks.items
