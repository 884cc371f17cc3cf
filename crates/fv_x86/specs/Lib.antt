-- The definitions, in reading order.
pub mod Instruction
pub mod Filter
pub mod Words
