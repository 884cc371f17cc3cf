-- The door of this crate: other crates import the definitions of its `specs/` from this file. Only definitions of
-- `specs/inner/` are imported directly.
pub use Rattle.fv_plan.specs.CommandFiles.{first_file, second_file}
