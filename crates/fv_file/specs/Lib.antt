-- The definitions in the order in which they can be read.
pub mod FileAttributes
pub mod States
pub mod FileHeaders
pub mod Cells
pub mod NewHeaders
pub mod HeaderReads
pub mod FileChecks
pub mod CellForms
pub mod CellWalks
pub mod Unmarking
pub mod LostMarks
pub mod Words
pub mod inner
