-- The definitions, in reading order.
pub mod Hobs
pub mod Lists
pub mod HobChecks
pub mod WorkedInputs
pub mod Words
