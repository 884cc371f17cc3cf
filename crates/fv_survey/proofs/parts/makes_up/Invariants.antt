use Rattle.std.proofs.Common.{◌≡◌, length}
use Rattle.fv_head.specs.Words.{pairs_of, makes_up}
use Rattle.fv_survey.proofs.parts.makes_up.Given as goal

-- all blocks have this total length exactly if the blocks that are left have the rest of the length
abbrev pub invariant-loop-count : goal.invariant-loop-count
invariant-loop-count l = makes_up (pairs_of l.rest) l.left ≡ makes_up (pairs_of l.fn.blocks) l.fn.total

abbrev pub decreases-loop-count : goal.decreases-loop-count
decreases-loop-count l = length l.rest
