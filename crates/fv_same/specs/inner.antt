-- Definitions that only private clauses use. A reviewer need not read them.
pub mod Placed
pub mod Readers
pub mod Walks
