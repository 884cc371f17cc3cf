-- The definitions, in the order in which they can be read.
pub mod Sources
pub mod Attempts
pub mod AllLevels
pub mod Words
pub mod inner
