-- The definitions, in reading order.
pub mod Format
pub mod Signs
pub mod Signatures
pub mod Reading
pub mod Rows
pub mod Honesty
pub mod Stores
pub mod SignatureLists
pub mod Words
