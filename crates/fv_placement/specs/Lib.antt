-- The definitions in the order in which they can be read.
pub mod Starts
pub mod LeastStarts
pub mod NoPlacement
pub mod Items
pub mod Words
pub mod inner
