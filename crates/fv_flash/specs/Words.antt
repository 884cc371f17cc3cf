-- The door of this crate: other crates import the definitions of its `specs/` from this file. Only definitions of
-- `specs/inner/` are imported directly.
pub use Rattle.fv_flash.specs.FoundVolumes.{VolumeAt, IsPlace, IsAfter, DoNotOverlap, IsCovered, Found, offsets_of, AreFound}
