-- Definitions that only private clauses cite: nothing here has to be taken on trust.
pub mod Codes
pub mod Falls
pub mod FoundDifferences
pub mod NameForms
pub mod NestingDepths
pub mod ReadingParts
pub mod SectionReads
pub mod Sizes
