-- The laws of this crate that crates above may cite. Each is passed on from the module that proves it. A lemma that is
-- not listed here is internal.

-- Files have at most one first placement, which has one start for each file. The least starts are the first placement
-- if they are a placement.
pub use Rattle.fv_placement.proofs.PlacementLaws.{starts_one, follow_length, agree}
-- Files cannot be placed if the volume top file cannot begin at its only possible start (`TopMisaligned`).
pub use Rattle.fv_placement.proofs.PlacementLaws.{top_none}
-- Files have a first placement, or the volume top file cannot begin at its only possible start, or there is no room.
pub use Rattle.fv_placement.proofs.DecideLaws.{placed_or_not}
