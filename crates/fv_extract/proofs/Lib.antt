-- Lemmas of this crate.
pub mod SearchLemmas
pub mod StepLemmas
