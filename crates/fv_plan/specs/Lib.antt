-- The definitions in the order in which they can be read.
pub mod CommandFiles
pub mod Words
