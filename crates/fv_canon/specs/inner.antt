-- Definitions that only private clauses cite: a reviewer does not need to read them.
pub mod Digests
pub mod FileWalks
pub mod ImageOf
pub mod Matching
pub mod SummingSinks
