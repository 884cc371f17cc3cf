-- The door of this crate: other crates import the definitions of its `specs/` from this file. Only definitions of
-- `specs/inner/` are imported directly.
pub use Rattle.fv_section.specs.Frames.{FrameForm, section_header_len, frame_len, StatesSize, IsSectionHeader}
pub use Rattle.fv_section.specs.Frames.{BeginsFrame, up_to_4, SplitsFrom, Splits}
pub use Rattle.fv_section.specs.SectionImage.{section_head_of, stream_of}
pub use Rattle.fv_section.specs.FrameChecks.{has_extended_size, section_header_len_at, section_size_in, section_size_at}
pub use Rattle.fv_section.specs.FrameChecks.{has_section_size, frame_checks, FrameFault, IsFirstFrameFault}
pub use Rattle.fv_section.specs.StreamReads.{frame_form, HasFrameAt, FramesWithin, FitsForm, IsHeadOfFrame, InPlace}
pub use Rattle.fv_section.specs.StreamReads.{StreamsAreRead, frame_in, after_size, after_first, offset_after, frames_from, HasFrames}
pub use Rattle.fv_section.specs.Texts.{IsText, IsVersion, IsFreeform}
