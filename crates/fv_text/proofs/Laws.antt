-- The laws of texts that crates above may cite. Each is passed on from the module that proves it.

-- The texts of some items, put one after the other.
pub use Rattle.fv_text.proofs.JoinedTextLemmas.{Tells, tells_none, tells_more, tells_all}
-- The texts of the items up to the next index.
pub use Rattle.fv_text.proofs.JoinedTextLemmas.{flat_next, texts_next}
-- A sink that gathers pieces has put the bytes that it took, once the gathered rest is put.
pub use Rattle.fv_text.proofs.GatheringLemmas.{gathered_all}
-- A sink of lines has put the hexadecimal text of the bytes that it took, once its last line is put.
pub use Rattle.fv_text.proofs.HexTextLemmas.{text_put}
