-- The door of this crate: other crates import the definitions of its `specs/` from this file. Only definitions of
-- `specs/inner/` are imported directly.
pub use Rattle.fv_canon.specs.PlacedBytes.{PlacedBytes, ContainsSpan, IsIn, ShowsPlaced}
pub use Rattle.fv_canon.specs.StoredFiles.{StoredFile, head_len_for, size_for, stored_len, long_pad, pads, used_size}
pub use Rattle.fv_canon.specs.StoredFiles.{placed_files, placed_in_volume}
unfoldable pub use Rattle.fv_canon.specs.StoredFiles.{stored_bytes, pad_bytes, gap_bytes, ext_pad}
pub use Rattle.fv_canon.specs.Layouts.{placement_item, placement_items, AreStarts, IsPlaced, Fits}
pub use Rattle.fv_canon.specs.Image.{IsImage, AreStored, IsStored, IsData, AreFrames, IsFrame, IsBodyImage}
pub use Rattle.fv_canon.specs.InputRejections.{NotPlaced, Rejects, IsUnfit, IsNotVolume, IsOfLayout}
pub use Rattle.fv_canon.specs.InputRejections.{OnlyWhatDoesNotFitIsRejected, WhatDoesNotFitIsRejected}
pub use Rattle.fv_canon.specs.Headline.{NormalisesTo, MeanSame, SameMeaningIffSameImage, ImageKeepsLengthAndMeaning}
pub use Rattle.fv_canon.specs.Headline.{ImageIsItsOwnImage, DataAligned, DataAreAligned, CellSums, SumsAreRight}
pub use Rattle.fv_canon.specs.Headline.{WhatFitsHasAnImage, IsWithin, HasOwnImage, EachVolumeHasItsImage}
pub use Rattle.fv_canon.specs.LayoutFaults.{AllFit, layout_fault, UnfitHere, FirstUnplaced, Unfit}
pub use Rattle.fv_canon.specs.ImageRules.{painted, InOrder, PadsRule, OneImage, OneMeaning}
pub use Rattle.fv_canon.specs.LayoutForms.{AreLeast, StartsOfEach, AreAllStarts, BeginsWithStarts, AreAllLeastStarts, LayoutParts, IsLayout}
pub use Rattle.fv_canon.specs.FlashImages.{IsNormalisedAt, NormalisesEach, NormalisesAll, HasImageAt, RejectedAt, FirstRejected}
pub use Rattle.fv_canon.specs.FlashImages.{RejectsAll, IsLaid, volume_starts, AreLaid, IsLaidOut}
pub use Rattle.fv_canon.specs.RenewedImages.{MeanSameAt, MeanSameEach, MeanSameAll, MeanSameAllIffSameRenewedImage}
pub use Rattle.fv_canon.specs.ImageChecks.{IsOtherThanImage, HasOutcome, IsChecked, AreChecked, ChecksImage, IsAboveLimit}
pub use Rattle.fv_canon.specs.ImageChecks.{AreCanonical, CanonicalImagesStay}
pub use Rattle.fv_canon.specs.NormaliseRuns.{NormalisingStops, RunWrites, RunStops}
pub use Rattle.fv_canon.specs.PartDigests.{VolumeDigest, FileDigest, BodyDigest, NodeDigest}
pub use Rattle.fv_canon.specs.WorkedInputs.{head, head_bytes, file_bytes, file_header_bytes, fault_at, changed}
pub use Rattle.fv_canon.specs.WorkedInputs.{smallest_volume, empty_volume, volume_with, long_header, nine_groups, no_room_for_pad, misaligned_top}
