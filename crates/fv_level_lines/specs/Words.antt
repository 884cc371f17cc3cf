-- The door of this crate: other crates import the definitions of its `specs/` from this file. Only definitions of
-- `specs/inner/` are imported directly.
pub use Rattle.fv_level_lines.specs.LevelTexts.{place_text, source_line, head_lines, account_lines, source_lines}
pub use Rattle.fv_level_lines.specs.LevelTexts.{sources_lines, reason_text, closed_line, counts_line, levels_lines}
pub use Rattle.fv_level_lines.specs.LevelTexts.{levels_text, are_clean}
