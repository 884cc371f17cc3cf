pub mod DecidedLemmas
pub mod FrameFaultLemmas
pub mod FrameLemmas
pub mod FrameWalkLemmas
pub mod Laws
pub mod SectionImageLemmas
pub mod SectionTextLemmas
pub mod StreamLemmas
