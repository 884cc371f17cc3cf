use Rattle.std.proofs.Common.{◌≡◌, ◌+◌, ◌*◌, length}
use Rattle.fv_same.specs.Words.{asides_among}
use Rattle.fv_same.proofs.part_walk.PartWalk.next_aside.Given as goal

-- the rows so far had no bytes outside of the meaning
abbrev pub invariant-loop-part : goal.invariant-loop-part
invariant-loop-part l = asides_among l.self.items ≡ asides_among l.fn.self.items

abbrev pub decreases-loop-part : goal.decreases-loop-part
decreases-loop-part l = 2 * length l.self.items + l.self.reading
