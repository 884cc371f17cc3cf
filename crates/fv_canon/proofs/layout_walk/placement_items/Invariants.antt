use Rattle.std.proofs.Common.{◌≡◌, map, take}
use Rattle.fv_canon.specs.Words.{placement_item}
use Rattle.fv_canon.proofs.layout_walk.placement_items.Given as goal

abbrev pub invariant-loop-file : goal.invariant-loop-file
invariant-loop-file l = l.items.items ≡ map placement_item (take l.file-index l.files)
