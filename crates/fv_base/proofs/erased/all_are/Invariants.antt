use Rattle.std.proofs.Common.{◌↔◌, length}
use Rattle.fv_base.specs.Words.{AllAre}
use Rattle.fv_base.proofs.erased.all_are.Given as goal

-- the bytes that are left decide whether all bytes are `byte`
abbrev pub invariant-loop-rest : goal.invariant-loop-rest
invariant-loop-rest l = AllAre l.fn.byte l.rest ↔ AllAre l.fn.byte l.fn.bytes

abbrev pub decreases-loop-rest : goal.decreases-loop-rest
decreases-loop-rest l = length l.rest
