pub mod LineLemmas
pub mod SourceLemmas
pub mod TextLemmas
