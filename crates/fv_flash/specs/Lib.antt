-- The definitions, in reading order.
pub mod FoundVolumes
pub mod Words
pub mod inner
