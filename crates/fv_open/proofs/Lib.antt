-- Lemmas of this crate.
pub mod StreamLemmas
pub mod StandardLemmas
