-- The definitions in the order in which they can be read.
pub mod Options
pub mod CommandLines
pub mod Words
pub mod inner
