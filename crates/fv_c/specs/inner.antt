-- Definitions that only private clauses cite: a reviewer does not need to read them.
pub mod Levels
pub mod ListedRows
pub mod Rows
pub mod Trees
