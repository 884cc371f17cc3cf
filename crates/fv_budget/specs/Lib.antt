-- The definitions, in the order in which they can be read.
pub mod PackedFrames
pub mod Budgets
pub mod Words
