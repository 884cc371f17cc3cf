pub mod ComparisonLineLaws
