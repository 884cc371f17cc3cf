-- The definitions, in the order in which they can be read.
pub mod Meant
pub mod Superseded
pub mod Parts
pub mod Sameness
pub mod Outside
pub mod Words
pub mod inner
