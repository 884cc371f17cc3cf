-- Definitions that only private clauses use. A reviewer need not read them.
pub mod Bounds
pub mod Chains
pub mod CleanParts
pub mod Fitting
pub mod Joining
pub mod LastFiles
pub mod Pieces
pub mod Sound
pub mod Strict
