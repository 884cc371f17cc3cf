-- Lemmas of this crate.
pub mod WalkLemmas
pub mod DifferenceLemmas
pub mod PartLaws
pub mod OutsideLemmas
