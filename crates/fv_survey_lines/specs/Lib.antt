-- The definitions, in the order in which they can be read.
pub mod RowLines
pub mod SurveyTexts
pub mod Words
pub mod inner
