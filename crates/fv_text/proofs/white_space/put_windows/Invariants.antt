use Rattle.std.proofs.Common.{◌≡◌, ◌≤◌, ◌+◌, ◌*◌, ◌++◌, length, take}
use Rattle.fv_text.specs.Words.{squeezed}
use Rattle.fv_text.proofs.white_space.put_windows.Given as goal

-- the windows so far are put into the room, without their white space
abbrev pub invariant-loop-i : goal.invariant-loop-i
invariant-loop-i l =
    (l.end ≤ l.fn.start + 16 * l.i)
    × (length l.room ≡ length l.initial.room)
    × (take l.end l.room ≡ take l.fn.start l.initial.room ++ squeezed (take (16 * l.i) l.fn.text))
