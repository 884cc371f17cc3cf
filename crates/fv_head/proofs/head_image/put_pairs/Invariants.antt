use Rattle.std.proofs.Common.{◌≡◌, ◌++◌, List, ℕ, drop}
use Rattle.fv_head.specs.Words.{pairs_bytes}
use Rattle.fv_head.proofs.head_image.put_pairs.Given as goal

-- the pairs so far were put, and the pairs from here on complete the bytes of all pairs
abbrev pub invariant-loop-count : goal.invariant-loop-count
invariant-loop-count g l =
    (front : List ℕ) × g.S.Sink.takes l.initial.out front l.out × (front ++ pairs_bytes (drop l.count-index l.pairs) ≡ pairs_bytes l.pairs)
