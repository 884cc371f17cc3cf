-- The door of this crate: other crates import the definitions of its `specs/` from this file. Only definitions of
-- `specs/inner/` are imported directly.
pub use Rattle.fv_head.specs.VolumeAttributes.{polarity_of}
pub use Rattle.fv_head.specs.Pairs.{pairs_of, pairs_bytes, bytes_in}
pub use Rattle.fv_head.specs.Ext.{Extension, zero_used_size, is_used_size, kept_payload, BeginNoEntry, SplitsEntries}
pub use Rattle.fv_head.specs.Ext.{IsExt}
pub use Rattle.fv_head.specs.Head.{signature_bytes, system_guid, HeadFields, IsHead, header_len_of, HasExt}
pub use Rattle.fv_head.specs.Head.{BeginsVolume, canonical_offset}
pub use Rattle.fv_head.specs.HeadImage.{checksum_of}
unfoldable pub use Rattle.fv_head.specs.HeadImage.{head_spelled, canonical_head}
pub use Rattle.fv_head.specs.ExtImage.{payload_with, entry_bytes, entries_bytes, entries_len, ext_len, canonical_end}
pub use Rattle.fv_head.specs.ExtImage.{first_edge}
unfoldable pub use Rattle.fv_head.specs.ExtImage.{ext_spelled}
pub use Rattle.fv_head.specs.HeadReads.{IsReadExt, IfRead, CanonicalRest, IsReadHead, IsCanonicalHead, extent_of}
pub use Rattle.fv_head.specs.HeadChecks.{has_signature, file_system_at, header_len_at, volume_len_at, is_header_len}
pub use Rattle.fv_head.specs.HeadChecks.{has_sum, is_zero_pair, is_one_volume, makes_up, blocks_at, has_block_map}
pub use Rattle.fv_head.specs.HeadChecks.{is_volume_len, ext_offset_at, ext_size_at, has_ext, leading_checks, later_checks}
pub use Rattle.fv_head.specs.HeadChecks.{head_checks, BeginsWithHeader}
pub use Rattle.fv_head.specs.HeadView.{fields_held}
