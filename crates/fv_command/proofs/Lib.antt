pub mod MemoryLaws
pub mod SameLaws
pub mod SurveyLaws
