-- The definitions, in reading order.
pub mod OpenFaults
pub mod Ways
pub mod SectionStreams
pub mod Headers
pub mod Contents
pub mod OpenedFrames
pub mod WorkedInputs
pub mod Words
pub mod inner
