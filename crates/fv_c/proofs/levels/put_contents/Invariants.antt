use Rattle.std.proofs.Common.{◌≡◌, ◌++◌, drop, length, take}
use Rattle.fv_c.specs.ReportedLevels.{all_contents}
use Rattle.fv_c.proofs.levels.put_contents.Given as goal

-- the buffer begins with the contents of the sources so far
abbrev pub invariant-loop-number : goal.invariant-loop-number
invariant-loop-number l =
    (l.place ≡ length (all_contents (take l.number l.levels.sources)))
    × (l.buffer ≡ all_contents (take l.number l.levels.sources) ++ drop l.place l.fn.buffer)
