-- The definitions, in reading order.
pub mod Expressions
pub mod OpChecks
pub mod WorkedInputs
pub mod Words
pub mod inner
