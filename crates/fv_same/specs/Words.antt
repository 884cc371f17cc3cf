-- The door of this crate: other crates import the definitions of its `specs/` from this file. Only definitions of
-- `specs/inner/` are imported directly.
pub use Rattle.fv_same.specs.Meant.{bytes_of_row, around_at, is_outside, around_volume, found_role, state_by, file_size}
pub use Rattle.fv_same.specs.Meant.{file_counts, file_role, section_role, is_erased, gap_role, is_in_stream, filler_role, role_as}
pub use Rattle.fv_same.specs.Meant.{role_of, around_in, around_after, says, can_be_aside, is_covered, is_aside}
pub use Rattle.fv_same.specs.Superseded.{NameKey, key_cmp, named_by, named_as, named_row, with_update, updates_from}
pub use Rattle.fv_same.specs.Superseded.{updates_of, is_superseded, role_in}
pub use Rattle.fv_same.specs.Parts.{PartForm, PlacedPart, ReaderForm, is_from, is_contents, is_opened_row}
pub use Rattle.fv_same.specs.Parts.{part_as, part_with, part_of, contents_with, contents_of, reader_after}
pub use Rattle.fv_same.specs.Parts.{comes_before, count_before, reader_at, read_if, items_from, items_of, parts_among}
pub use Rattle.fv_same.specs.Parts.{asides_among, placed_parts, parts_of, asides_of}
unfoldable pub use Rattle.fv_same.specs.Parts.{items_in}
pub use Rattle.fv_same.specs.Sameness.{Same, without_places, FirstDiffers}
pub use Rattle.fv_same.specs.Outside.{differing, all_differing}
