pub mod EntryOrderLaws
pub mod IndexLaws
pub mod Laws
pub mod NeighbourLaws
pub mod NumberedLaws
