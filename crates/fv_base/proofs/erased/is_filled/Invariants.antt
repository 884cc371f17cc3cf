use Rattle.std.proofs.Common.{◌≡◌, ◌↔◌, take}
use Rattle.fv_base.specs.Words.{AllAre}
use Rattle.fv_base.proofs.erased.is_filled.Given as goal

-- `seen` is 0 exactly if all bytes so far are `byte`
abbrev pub invariant-loop-other : goal.invariant-loop-other
invariant-loop-other l = (l.seen ≡ 0) ↔ AllAre l.fn.byte (take l.other-index l.fn.piece)
