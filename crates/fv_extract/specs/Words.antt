-- The door of this crate: other crates import the definitions of its `specs/` from this file. Only definitions of
-- `specs/inner/` are imported directly.
pub use Rattle.fv_extract.specs.Extractions.{IsSectionPart, IsFramePart, IsSectionOf, IsPart, StopsPart, IsLaidOut}
pub use Rattle.fv_extract.specs.ExtractionTexts.{ExtractionText}
pub use Rattle.fv_extract.specs.Progresses.{counted, at_start, skipped, opened, unopened, not_sections}
pub use Rattle.fv_extract.specs.OpenedParts.{SearchEnd, InVolume, Nowhere, end_in, PackedRelation, ContentsRelation}
pub use Rattle.fv_extract.specs.OpenedParts.{SectionSearch, PartSearch, RowsSearch, Unread, ContentsOver, OpenedOver}
pub use Rattle.fv_extract.specs.OpenedParts.{PackedOver, PackedSearch, VolumeSearch, search_of, EndText, EndStops}
pub use Rattle.fv_extract.specs.OpenedParts.{OpenedPartText, StopsOpenedPart, LacksFile, HasNoVolume}
