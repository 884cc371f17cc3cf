-- The files of definitions, in the order in which they can be read.
pub mod ScanLines
pub mod HobLines
pub mod CellTexts
pub mod Notes
pub mod ListTexts
pub mod Words
pub mod inner
