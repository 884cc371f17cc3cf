-- Lemmas of this crate.
pub mod RunLemmas
pub mod LevelLaws
