use Rattle.std.proofs.Common.{◌≡◌, ◌≤◌, ◌+◌, ◌++◌, length, take}
use Rattle.fv_text.specs.Words.{squeezed}
use Rattle.fv_text.proofs.white_space.put_kept.Given as goal

-- the text so far is put into the room, without its white space
abbrev pub invariant-loop-i : goal.invariant-loop-i
invariant-loop-i l =
    (l.end ≤ l.fn.start + l.i)
    × (length l.room ≡ length l.initial.room)
    × (take l.end l.room ≡ take l.fn.start l.initial.room ++ squeezed (take l.i l.fn.text))
