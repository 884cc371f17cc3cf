pub mod DecideLaws
pub mod Laws
pub mod MultipleLaws
pub mod PlacementLaws
pub mod ReachLaws
pub mod UsableStartLaws
