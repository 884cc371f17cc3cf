use Rattle.std.proofs.Common.{◌≡◌, take}
use Rattle.fv_hob.specs.Words.{list_spelled}
use Rattle.fv_hob.proofs.write.list_spelled.Given as goal

abbrev pub invariant-loop-hob : goal.invariant-loop-hob
invariant-loop-hob l = l.bytes.items ≡ list_spelled (take l.hob-index l.fn.hobs)
