use Rattle.std.proofs.Common.{◌≡◌, ◌&&◌, drop}
use Rattle.std.specs.List.{list_all}
use Rattle.fv_levels.specs.Words.{rows_of}
use Rattle.fv_survey_lines.specs.Words.{is_clean}
use Rattle.fv_level_lines.specs.Words.{sources_lines}
use Rattle.fv_level_lines.specs.inner.PutLines.{Left}
use Rattle.fv_level_lines.proofs.level_text.put_sources.Given as goal

-- the lines of the sources so far have been put, and the lines of the others are left
abbrev pub invariant-loop-number : goal.invariant-loop-number
invariant-loop-number g l =
    Left g.S.Sink.takes (sources_lines 1 (drop 1 l.fn.levels.sources)) l.initial.out l.out
    (sources_lines l.number (drop l.number l.fn.levels.sources))
    × ((l.clean && list_all (λ s. is_clean (rows_of s)) (drop l.number l.fn.levels.sources))
    ≡ list_all (λ s. is_clean (rows_of s)) (drop 1 l.fn.levels.sources))
