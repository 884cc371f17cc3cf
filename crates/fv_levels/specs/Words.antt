-- The door of this crate: other crates import the definitions of its `specs/` from this file. Only definitions of
-- `specs/inner/` are imported directly.
pub use Rattle.fv_levels.specs.Sources.{SourceForm, source_form, image_source, opened_source, LevelsForm, rows_as, rows_of}
pub use Rattle.fv_levels.specs.Sources.{is_section, is_packed_row, packed_rows, section_in, packed_in, packed_of}
pub use Rattle.fv_levels.specs.Attempts.{Attempt, outcome_within, outcome_of, budget_after, attempt, tried}
pub use Rattle.fv_levels.specs.Attempts.{lies_in, stored_if, stored_in, last_stored, first_progress, is_covered, after, after_all}
pub use Rattle.fv_levels.specs.Attempts.{IsTried}
pub use Rattle.fv_levels.specs.Attempts.{source_if, closed_if, sources_of, closed_of, levels_with}
pub use Rattle.fv_levels.specs.AllLevels.{level_of, attempts_of, levels_of, ComeAfter, AreLevels}
unfoldable pub use Rattle.fv_levels.specs.AllLevels.{levels_from}
