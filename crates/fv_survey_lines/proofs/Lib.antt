pub mod LineLemmas
pub mod TotalLemmas
pub mod Laws
