pub mod RowWalkLaws
pub mod RowVolumeLaws
pub mod Laws
