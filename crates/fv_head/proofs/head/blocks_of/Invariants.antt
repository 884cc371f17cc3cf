use Rattle.std.proofs.Common.{◌≡◌, ◌%◌, ◌++◌, length}
use Rattle.fv_head.specs.Words.{pairs_of}
use Rattle.fv_head.proofs.head.blocks_of.Given as goal

-- the pairs so far, followed by the pairs of the remaining bytes, are all pairs
abbrev pub invariant-loop-pair : goal.invariant-loop-pair
invariant-loop-pair l =
    (length l.rest % 8 ≡ 0) × (l.blocks.items ++ pairs_of l.rest ≡ pairs_of l.fn.bytes)

abbrev pub decreases-loop-pair : goal.decreases-loop-pair
decreases-loop-pair l = length l.rest
