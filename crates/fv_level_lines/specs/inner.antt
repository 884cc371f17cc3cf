-- Definitions that only private clauses and proofs use. A reviewer need not read them.
pub mod PutLines
