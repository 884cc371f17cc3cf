-- The definitions in the order in which they can be read.
pub mod NamedFiles
pub mod NameIndexes
pub mod Words
pub mod inner
