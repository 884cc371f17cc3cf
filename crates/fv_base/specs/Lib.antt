-- The definitions in the order in which they can be read.
pub mod Limits
pub mod Value
pub mod Sums
pub mod Guids
pub mod Flash
pub mod Alignment
pub mod Measures
pub mod GuidTexts
pub mod Faults
pub mod Checks
pub mod Input
pub mod Port
pub mod Sinks
pub mod Words
pub mod inner
