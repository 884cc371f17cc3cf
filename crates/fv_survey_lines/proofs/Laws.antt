-- The laws that crates above may cite. Each is passed on from the module that proves it.

-- The rows of the survey of an image account for its bytes, and the numbers of bytes of all kinds add up.
pub use Rattle.fv_survey_lines.proofs.TotalLemmas.{add_up, image_account}
-- A fact is also true after an error.
pub use Rattle.fv_survey_lines.proofs.LineLemmas.{on_err}
