-- The definitions in the order in which they can be read.
pub mod ComparisonLines
pub mod CompareRuns
pub mod Words
