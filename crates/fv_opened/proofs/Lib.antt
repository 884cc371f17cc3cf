-- Lemmas of this crate.
pub mod RowDepthLemmas
pub mod PlainListLemmas
pub mod WorkedListLemmas
pub mod PackedTextLemmas
