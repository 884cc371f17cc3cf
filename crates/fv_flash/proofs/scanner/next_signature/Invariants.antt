use Rattle.std.proofs.Common.{◌+◌, ◌-◌, length}
use Rattle.fv_flash.specs.inner.FoundWalks.{IsReached}
use Rattle.fv_flash.proofs.scanner.next_signature.Given as goal

abbrev pub invariant-loop-at : goal.invariant-loop-at
invariant-loop-at l = IsReached l.bytes l.from l.at

abbrev pub decreases-loop-at : goal.decreases-loop-at
decreases-loop-at l = length l.bytes + 1 - l.at
