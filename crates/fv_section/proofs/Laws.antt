-- The laws of frames and streams that crates above may cite. Each is passed on from the module that proves it.

-- ---- a frame

-- If a list of bytes begins with a frame, the checks hold, and this frame is read.
pub use Rattle.fv_section.proofs.FrameLemmas.{frame_reads}
-- A frame has at least 4 bytes, and the length that follows from its form and its body. At most one frame begins a list
-- of bytes.
pub use Rattle.fv_section.proofs.FrameLemmas.{size_least, length_begun, one_frame}
-- If a list of bytes (numbers below 256) begins with a frame, the frame's body and the rest are lists of bytes, and the
-- body fits the form of the header.
pub use Rattle.fv_section.proofs.StreamLemmas.{begun_bytes, form_fits, fits_form, fits}
-- A header that is written has its form, its type and its size.
pub use Rattle.fv_section.proofs.SectionImageLemmas.{head_is}
-- ---- a stream

-- A stream is split in one way. Frames that split the bytes up to a multiple of 4, and one more frame there, are a
-- stream.
pub use Rattle.fv_section.proofs.StreamLemmas.{from_least, one_split, one_more}
-- If a check fails, the stream does not split. Each frame ends within the stream.
pub use Rattle.fv_section.proofs.FrameWalkLemmas.{none_after, whole_within, stands_within}
-- A stream has at most one first fault, which is within its bytes or at their end, and is a fault in the sense of
-- `Any`.
pub use Rattle.fv_section.proofs.FrameFaultLemmas.{frame_within, frame_fails, one_frame_fault}
-- Bytes are a stream of frames, or have a first fault.
pub use Rattle.fv_section.proofs.DecidedLemmas.{stream_decided}
-- The tail of a stream has at most 3 bytes.
pub use Rattle.fv_section.proofs.StreamLemmas.{tail_small}
-- Each frame of a stream begins at its offset.
pub use Rattle.fv_section.proofs.FrameWalkLemmas.{split_stands}
-- A stream begins with its first frame, and the other frames split the bytes after that frame and its filler.
pub use Rattle.fv_section.proofs.FrameWalkLemmas.{begins_of, others_split}
-- ---- streams that are written

-- Frames that are written one after another are read again as the same frames.
pub use Rattle.fv_section.proofs.SectionImageLemmas.{streams_are_read}
