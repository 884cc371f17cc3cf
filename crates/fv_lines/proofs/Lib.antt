pub mod CellSumLemmas
pub mod DepexNoteLemmas
