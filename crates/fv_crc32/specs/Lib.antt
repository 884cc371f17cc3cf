-- The definitions, in reading order.
pub mod Crc32
pub mod Words
pub mod inner
