-- The definitions, in reading order.
pub mod LostMarks
pub mod Words
pub mod inner
