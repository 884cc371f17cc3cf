-- The laws of cells, files and headers that crates above may cite. Each is passed on from the module that proves it.

-- ---- a body and its cells

-- A body is tiled in at most one way. If a check fails, there is no tiling. Each cell lies within the volume. A body
-- has at most one first fault, which is also a fault in the sense of `Any`. Cells tile a body, or it has a first fault.
pub use Rattle.fv_file.proofs.BodyLemmas.{only_one, none_after, all_within, cell_fails, one_cell_fault, body_decided}
-- The first fault of a body lies within it, or at its end.
pub use Rattle.fv_file.proofs.CellFaultLemmas.{body_within}
-- A walk passes one cell after another. At the end, these cells tile the body. The fault of the next cell is the first
-- fault of the body.
pub use Rattle.fv_file.proofs.CellWalkLemmas.{one_passed, walk_begins, walked_on, walk_ends, walk_fails}
-- A cell has the length that follows from its fields. The header and the data of a file make up its size.
pub use Rattle.fv_file.proofs.CellPartLemmas.{cell_span, made_up}
-- There is at most one tiling. Cells that are not free, and one more cell, tile the joined bytes.
pub use Rattle.fv_file.proofs.TilingLemmas.{OneCell, NotEmpty, one_tiling, one_more, none_more}
-- There are at most as many cells as bytes.
pub use Rattle.fv_file.proofs.TiledCellLemmas.{cells_few}
-- The data of a file or pad are the bytes of the volume from the end of the file's header to the end of the file.
pub use Rattle.fv_file.proofs.TiledCellLemmas.{IsPayloadIn, tiled_payloads, body_payloads}
-- Each valid file in a tiling of bytes meets the conditions of `FileRead`.
pub use Rattle.fv_file.proofs.TiledCellLemmas.{IsRead, tiles_read}
-- If the checks of a cell hold, the cell that is read begins the bytes.
pub use Rattle.fv_file.proofs.CellFoundLemmas.{CellStandsAt, cell_stands}
-- If reading a cell fails, the fault is the first fault of its checks. If a cell is read, all its checks hold.
pub use Rattle.fv_file.proofs.CellVerdictLemmas.{verdict_first, verdict_holds}
-- ---- a file

-- The data of a file are after its header. A valid file in bytes meets the conditions of `FileRead`.
pub use Rattle.fv_file.proofs.FileReadLemmas.{payload_behind, FileRead, cell_read}
-- A header has at least 24 bytes.
pub use Rattle.fv_file.proofs.FileLemmas.{header_least}
-- ---- attribute bits

-- Attributes without bit 0x01 are even. With this bit, they are the attributes of a large header.
pub use Rattle.fv_file.proofs.FileAttributeLemmas.{small_even, set_large}
-- Attributes whose bit 0x01 is set for a large header, and clear for a short one, say the form of the header.
pub use Rattle.fv_file.proofs.NewHeaderLemmas.{with_large_is}
-- Setting or clearing bit 0x01 for the form of the header does not change the other bits.
pub use Rattle.fv_file.proofs.FileAttributeLemmas.{fixed_with, summed_with, alignment_with, with_large_small}
-- ---- headers that are written

-- A written header is a list of bytes, and has the length of its form. Its State is a byte.
pub use Rattle.fv_file.proofs.NewHeaderLemmas.{state_small, bytes_header, length-header}
-- A header checksum is a byte. Written headers are read again as their fields, and with data and filler they are files
-- and pads.
pub use Rattle.fv_file.proofs.NewHeaderLemmas.{complement_small, file_written, pad_written, head_of_file, head_of_pad}
-- No other bytes are the header of these fields.
pub use Rattle.fv_file.proofs.NewHeaderLemmas.{only_written, only_file, only_pad}
-- ---- the marks of fixed files

-- Removing marks of fixed files does not change the number of bytes.
pub use Rattle.fv_file.proofs.MarkedFileLemmas.{length-unmarked}
pub use Rattle.fv_file.proofs.UnmarkLemmas.{length-unmarks}
-- Removing a mark does not change the bytes before the file. It changes the bytes from the file on as if they were all.
pub use Rattle.fv_file.proofs.MarkedFileLemmas.{drop-unmarked}
pub use Rattle.fv_file.proofs.UnmarkLemmas.{front_unmarked}
-- The fault Fixed is the fault of a valid file whose attributes have bit 0x04. Without its mark, the file is not fixed.
pub use Rattle.fv_file.proofs.MarkedFileLemmas.{FixedThere, fixed_there, fixed_least, not_fixed_again}
-- If the first fault of a body is Fixed, one more mark is removed.
pub use Rattle.fv_file.proofs.UnmarkLemmas.{marks_more}
-- There is one way to remove all marks.
pub use Rattle.fv_file.proofs.UnmarkLemmas.{NoneFixed, tiled_unfixed, fault_unfixed, one_unmarked}
-- The marks can be removed from a body, or a fault that is not Fixed stops this. In the body without marks, each cell has
-- lost its mark. Bodies differ in marks only exactly if they have one copy without marks.
pub use Rattle.fv_file.proofs.LostMarkLemmas.{body_unmarked, marks_never, lost_of}
pub use Rattle.fv_file.proofs.MarkDifferenceLemmas.{differ_of, one_lost, other_lost}
