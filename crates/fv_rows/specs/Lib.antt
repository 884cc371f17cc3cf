-- The definitions in the order in which they can be read.
pub mod TreeRows
pub mod RowWalks
pub mod Words
pub mod inner
