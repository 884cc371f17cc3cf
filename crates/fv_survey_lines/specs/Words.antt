-- The door of this crate: other crates import the definitions of its `specs/` from this file. Only definitions of
-- `specs/inner/` are imported directly.
pub use Rattle.fv_survey_lines.specs.RowLines.{kind_word, spaces, found_text, volume_text, type_text, file_text}
pub use Rattle.fv_survey_lines.specs.RowLines.{subject_text, number_text, word_after, numbers_from, findings_text}
pub use Rattle.fv_survey_lines.specs.RowLines.{row_line}
pub use Rattle.fv_survey_lines.specs.SurveyTexts.{is_marked_only, has_other_findings, leaf_number, is_sound, is_clean}
pub use Rattle.fv_survey_lines.specs.SurveyTexts.{leaf_kinds, bytes_of_kind, count_text, sum_text, AccountFor}
pub use Rattle.fv_survey_lines.specs.SurveyTexts.{totals_line, rows_text, account_text, survey_text}
