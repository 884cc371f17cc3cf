-- Definitions that only private clauses cite: nothing here has to be taken on trust.
pub mod CommandWords
