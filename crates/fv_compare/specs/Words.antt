-- The door of this crate: other crates import the definitions of its `specs/` from this file. Only definitions of
-- `specs/inner/` are imported directly.
pub use Rattle.fv_compare.specs.ComparisonLines.{step_text, path_text, difference_word, compare_line}
pub use Rattle.fv_compare.specs.CompareRuns.{Compares, ComparisonStops, ReadsVolume, VolumeStops, InputSideStops}
pub use Rattle.fv_compare.specs.CompareRuns.{RunCompares, SideStopsRun}
