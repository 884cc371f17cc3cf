use Rattle.std.proofs.Common.{drop}
use Rattle.fv_levels.specs.declared.attempt.Progress.{Progress}
use Rattle.fv_levels.specs.Words.{LevelsForm, packed_of}
use Rattle.fv_levels.specs.inner.Opening.{Continues, GoesOver}
use Rattle.fv_levels.proofs.opening.open_level.Given as goal

-- the sources so far are kept; the attempts for the sources that are left complete the attempts for all sources
abbrev pub invariant-loop-number : goal.invariant-loop-number
invariant-loop-number l =
    Continues l.fn.levels l.levels
    × ((end : LevelsForm) (t : Progress) → GoesOver l.levels l.next (packed_of l.number (drop l.number l.fn.levels.sources)) end t
    → GoesOver l.fn.levels l.fn.progress (packed_of l.fn.from (drop l.fn.from l.fn.levels.sources)) end t)
