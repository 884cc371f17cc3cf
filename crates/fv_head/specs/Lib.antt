-- The definitions in the order in which they can be read.
pub mod VolumeAttributes
pub mod Pairs
pub mod Ext
pub mod Head
pub mod HeadImage
pub mod ExtImage
pub mod HeadReads
pub mod HeadChecks
pub mod HeadView
pub mod Words
pub mod inner
