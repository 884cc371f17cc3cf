-- The door of this crate: other crates import the definitions of its `specs/` from this file. Only definitions of
-- `specs/inner/` are imported directly.
pub use Rattle.fv_file.specs.FileAttributes.{attribute_bits, attributes_by, is_large, is_fixed, is_summed}
pub use Rattle.fv_file.specs.FileAttributes.{without_large}
pub use Rattle.fv_file.specs.States.{bits_of, state_in, StateOf, is_alive}
unfoldable pub use Rattle.fv_file.specs.States.{state_of}
pub use Rattle.fv_file.specs.FileHeaders.{pad_kind, file_header_len, header_sum_at, file_sum_at, file_type_at}
pub use Rattle.fv_file.specs.FileHeaders.{attributes_at, state_at, file_size_in, head_in, header_sum_of, fixed_checksum}
pub use Rattle.fv_file.specs.FileHeaders.{file_sum_right, IsFileHeader, IsFile, IsSound}
pub use Rattle.fv_file.specs.Cells.{CellForm, Valid, Pad, Dead, Stub, Free, offset_of, is_free, IsFilled, IsCell, Tiles}
pub use Rattle.fv_file.specs.NewHeaders.{needs_large, with_large, state_byte, pad_name, complement, file_sum_for}
pub use Rattle.fv_file.specs.NewHeaders.{header_with, file_head_of, pad_head_of}
unfoldable pub use Rattle.fv_file.specs.NewHeaders.{header_bytes}
pub use Rattle.fv_file.specs.HeaderReads.{BeginsFile, IsNewHeader, IsHeadOfFile, IsHeadOfPad, header_fields, file_fields}
pub use Rattle.fv_file.specs.HeaderReads.{pad_fields}
pub use Rattle.fv_file.specs.FileChecks.{leading_count, allows_large, file_header_len_at, file_size_at, payload_at}
pub use Rattle.fv_file.specs.FileChecks.{may_be_large, has_header_sum, has_file_size, skips_data, has_file_sum}
pub use Rattle.fv_file.specs.FileChecks.{file_checks, stub_checks, state_checks, cell_checks, is_valid_state}
pub use Rattle.fv_file.specs.FileChecks.{verify_checks, NoneFree, CellFault, IsFirstCellFault}
pub use Rattle.fv_file.specs.CellForms.{cell_form, cell_len, LengthsAgree, CellsWithin}
pub use Rattle.fv_file.specs.CellWalks.{CellsLeft, left_at, TileLeft, Walked, IsNextFault}
pub use Rattle.fv_file.specs.Unmarking.{unmarked, Unmarks}
pub use Rattle.fv_file.specs.LostMarks.{is_marked, without_mark, but_for_mark, TilesUnmarked, DiffersInMark}
pub use Rattle.fv_file.specs.LostMarks.{DifferInMarks, Unmarkable, UnmarkingStops}
