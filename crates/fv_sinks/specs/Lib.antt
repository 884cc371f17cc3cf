-- The definitions in the order in which they can be read.
pub mod DigestSinks
pub mod BufferSinks
pub mod Words
pub mod inner
