-- The definitions, in reading order.
pub mod Frames
pub mod SectionImage
pub mod FrameChecks
pub mod StreamReads
pub mod Texts
pub mod Words
pub mod inner
