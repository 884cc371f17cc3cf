-- The laws of this crate that the crates above may cite.
-- each row of a volume is followed by the rows of its contents
pub use Rattle.fv_rows.proofs.RowVolumeLaws.{rows_followed}
-- the same of the rows of a stream, and the volumes among them
pub use Rattle.fv_rows.proofs.RowVolumeLaws.{stream_followed, stream_volumes}
-- the volumes among the rows of a volume, of some files, and in a file or a section are the volumes in these parts
pub use Rattle.fv_rows.proofs.RowVolumeLaws.{files_volumes, content_volumes, tree_volumes, file_inside, section_inside}
-- the rows in a part are the rows of the parts that it contains, and the rows of a volume are the rows of one part
pub use Rattle.fv_rows.proofs.RowWalkLaws.{inside_rows, stream_rows, volume_rows}
-- the sections of a stream nest only so deep that a walk over them has room
pub use Rattle.fv_rows.proofs.RowWalkLaws.{stream_nests}
-- the parts in a part nest only as deep as their depth allows, and the depth of a part is at most 26
pub use Rattle.fv_rows.proofs.RowWalkLaws.{inside_nests, deep}
