-- The files of definitions, in the order in which they can be read.
pub mod Endings
pub mod RunInputs
pub mod PairRuns
pub mod PackedSections
pub mod OpenRuns
pub mod ImageChecks
pub mod PartLines
pub mod SurveyRuns
pub mod SameRuns
pub mod Tasks
pub mod PlanRuns
pub mod Words
pub mod inner
