-- The laws of this crate that crates above may cite. Each is passed on from the module that proves it. A lemma that is
-- not listed here is internal.

-- If bytes begin with a volume, no other header fields and no other extent fit the bytes, the checks of the header
-- hold, and the extent follows from the header. Only the volume's own bytes decide this.
pub use Rattle.fv_head.proofs.HeadPlaceLemmas.{one_front, front_holds, front_extent, front_same}
-- The header of a volume lies within it, and the volume is within the limit. Its first file may begin at a multiple of
-- 8 within it, and its length is a multiple of 8.
pub use Rattle.fv_head.proofs.HeadPlaceLemmas.{Lies, front_lies, first_lies}
-- The first fault of a header is within the bytes, or at their end, and is not OutOfMemory.
pub use Rattle.fv_head.proofs.HeadFaultLemmas.{fault_within, fault_known}
-- The same bytes are an extended header with at most one meaning. An extended header that is written is read again as
-- this extended header. An extended header has at most 65,535 bytes.
pub use Rattle.fv_head.proofs.ExtLemmas.{one_ext}
pub use Rattle.fv_head.proofs.ExtImageLemmas.{ext_again, ext_len_most}
-- The bytes that `canonical_head` spells satisfy `IsCanonicalHead`, and no other bytes do. The number of these bytes
-- follows from the fields, and a header has at most 2112 bytes.
pub use Rattle.fv_head.proofs.HeadImageLemmas.{canonical_is, canonical_only, length-canonical, header_len_is, header_len_most}
-- The canonical head, with its extended header in a pad file after it, begins a volume with its fields.
pub use Rattle.fv_head.proofs.HeadImageLemmas.{canonical_front}
-- Bytes begin with a volume, or the checks of a volume header have a first fault, and never both.
pub use Rattle.fv_head.proofs.DecidedLemmas.{front_decided, front_never}
