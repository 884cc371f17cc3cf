-- The definitions in the order in which they can be read.
pub mod HexText
pub mod PortViews
pub mod HexIn
pub mod SinkAdapters
pub mod Words
pub mod inner
