-- Definitions that only private clauses use. A reviewer need not read them.
pub mod Opening
pub mod Outcomes
