use Rattle.std.proofs.Common.{◌≡◌, Some, map, slice_get, take}
use Rattle.fv_levels.specs.Words.{SourceForm, section_in}
use Rattle.fv_levels.specs.inner.Opening.{GoesOver}
use Rattle.fv_levels.proofs.opening.open_source.Given as goal

-- the attempts so far are the attempts for the sections of the rows so far
abbrev pub invariant-loop-row : goal.invariant-loop-row
invariant-loop-row l =
    (s : SourceForm) → slice_get l.fn.levels.sources l.fn.number ≡ Some s
    → GoesOver l.fn.levels l.fn.progress (map (section_in l.fn.number s) (take l.row-index l.row-items)) l.levels l.next
