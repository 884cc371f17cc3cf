-- The door of this crate: other crates import the definitions of its `specs/` from this file. Only definitions of
-- `specs/inner/` are imported directly.
pub use Rattle.fv_sinks.specs.DigestSinks.{HasTaken, DigestTakes}
pub use Rattle.fv_sinks.specs.BufferSinks.{buffer_name, taken_in, rest_in, BufferTakes}
