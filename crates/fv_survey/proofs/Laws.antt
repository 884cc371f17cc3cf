-- The laws of surveys that crates above may cite. Each is passed on from the module that proves it.

-- Every byte of an image is in exactly one leaf row, and there are at most two rows for each byte.
pub use Rattle.fv_survey.proofs.SurveyLaws.{tiling, few}
