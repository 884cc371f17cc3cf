use Rattle.std.proofs.Common.{◌≡◌, length, take}
use Rattle.fv_c.specs.ReportedLevels.{all_contents}
use Rattle.fv_c.proofs.levels.contents_length.Given as goal

abbrev pub invariant-loop-number : goal.invariant-loop-number
invariant-loop-number l = l.total ≡ length (all_contents (take l.number l.levels.sources))
