use Rattle.std.proofs.Common.{ℕ, List, ◌++◌, length}
use Rattle.fv_head.specs.Words.{SplitsEntries}
use Rattle.fv_head.proofs.ext.entries_of.Given as goal

-- the entries so far, followed by entries that split the rest, split all the bytes
abbrev pub invariant-loop-len : goal.invariant-loop-len
invariant-loop-len l = (es : List (ℕ × List ℕ)) (tail : List ℕ) → SplitsEntries es tail l.rest
    → SplitsEntries (l.entries.items ++ es) tail l.fn.bytes

abbrev pub decreases-loop-len : goal.decreases-loop-len
decreases-loop-len l = length l.rest
