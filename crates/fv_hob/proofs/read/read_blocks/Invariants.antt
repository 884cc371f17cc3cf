use Rattle.std.proofs.Common.{◌-◌, length}
use Rattle.fv_hob.proofs.HobReadLemmas.{HobsKept}
use Rattle.fv_hob.proofs.read.read_blocks.Given as goal

abbrev pub invariant-loop-hobs : goal.invariant-loop-hobs
invariant-loop-hobs l = HobsKept l.fn.bytes l.hobs.items l.at

abbrev pub decreases-loop-hobs : goal.decreases-loop-hobs
decreases-loop-hobs l = length l.fn.bytes - l.at
