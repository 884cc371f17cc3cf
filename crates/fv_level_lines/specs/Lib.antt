-- The definitions, in the order in which they can be read.
pub mod LevelTexts
pub mod Words
pub mod inner
