use Rattle.std.proofs.Common.{◌≡◌, ◌+◌, ◌≤◌, length}
use Rattle.fv_head.specs.Words.{pairs_of}
use Rattle.fv_survey.specs.Words.{map_end, mapped_end}
use Rattle.fv_survey.proofs.header.mapped_end.Given as goal

-- the end by the pairs that are left is the end by the whole block map
abbrev pub invariant-loop-count : goal.invariant-loop-count
invariant-loop-count l = (56 ≤ l.at) × (l.at + length l.rest ≤ length l.bytes) × (map_end l.at (pairs_of l.rest) ≡ mapped_end l.bytes)

abbrev pub decreases-loop-count : goal.decreases-loop-count
decreases-loop-count l = length l.rest
