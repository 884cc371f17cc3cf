-- The definitions, in the order in which they can be read.
pub mod OpenedTexts
pub mod WorkedLists
pub mod Words
pub mod inner
