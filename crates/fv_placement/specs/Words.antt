-- The door of this crate: other crates import the definitions of its `specs/` from this file. Only definitions of
-- `specs/inner/` are imported directly.
pub use Rattle.fv_placement.specs.Starts.{Lawful, IsStartInVolume, StartsFollow, Placement, IsFirstPlacement}
pub use Rattle.fv_placement.specs.LeastStarts.{IsLeastStart, IsLeast}
pub use Rattle.fv_placement.specs.NoPlacement.{IsMisaligned, TopMisaligned, HasNoRoom}
pub use Rattle.fv_placement.specs.Items.{IsLawfulItem}
