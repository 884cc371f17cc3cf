use Rattle.std.proofs.Common.{◌≡◌, ◌+◌, ◌*◌, ◌++◌, length, take}
use Rattle.fv_text.specs.inner.HexDecoding.{joined_pairs}
use Rattle.fv_text.proofs.hex_digits.join_pairs.Given as goal

-- the bytes of the pairs so far are put into the room
abbrev pub invariant-loop-i : goal.invariant-loop-i
invariant-loop-i l =
    (length l.room ≡ length l.initial.room)
    × (take (l.fn.start + l.i) l.room ≡ take l.fn.start l.initial.room ++ joined_pairs (take (2 * l.i) l.fn.values))
