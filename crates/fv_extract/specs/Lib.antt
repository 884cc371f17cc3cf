-- The definitions, in the order in which they can be read.
pub mod Extractions
pub mod ExtractionTexts
pub mod Progresses
pub mod OpenedParts
pub mod Words
pub mod inner
