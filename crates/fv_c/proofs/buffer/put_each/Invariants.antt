use Rattle.std.proofs.Common.{◌≡◌, ◌++◌, drop, map, take}
use Rattle.fv_c.proofs.buffer.put_each.Given as goal

-- the translated values so far are at the start of the buffer, which is unchanged after them
abbrev pub invariant-loop-i : goal.invariant-loop-i
invariant-loop-i g l = l.buffer ≡ take l.i (map g.T.Translate.translated l.values) ++ drop l.i l.initial.buffer
