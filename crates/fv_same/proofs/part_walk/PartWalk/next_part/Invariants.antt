use Rattle.std.proofs.Common.{◌≡◌, ◌+◌, ◌*◌, length}
use Rattle.fv_same.specs.Words.{parts_among}
use Rattle.fv_same.proofs.part_walk.PartWalk.next_part.Given as goal

-- the rows so far had no parts
abbrev pub invariant-loop-part : goal.invariant-loop-part
invariant-loop-part l = parts_among l.self.items ≡ parts_among l.fn.self.items

abbrev pub decreases-loop-part : goal.decreases-loop-part
decreases-loop-part l = 2 * length l.self.items + l.self.reading
