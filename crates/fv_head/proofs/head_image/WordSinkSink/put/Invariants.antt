use Rattle.std.proofs.Common.{◌≡◌, ◌+◌, ◌%◌, take}
use Rattle.fv_head.specs.inner.WordSums.{word_weight, is_high_after}
use Rattle.fv_head.proofs.head_image.WordSinkSink.put.Given as goal

-- the sum is the sum of the bytes so far
abbrev pub invariant-loop-byte : goal.invariant-loop-byte
invariant-loop-byte l =
    (l.self.high ≡ is_high_after l.fn.self.high (take l.byte-index l.bytes))
    × (l.self.total % 65536 ≡ (l.fn.self.total + word_weight l.fn.self.high (take l.byte-index l.bytes)) % 65536)
