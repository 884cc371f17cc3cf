-- The door of this crate: other crates import the definitions of its `specs/` from this file. Only definitions of
-- `specs/inner/` are imported directly.
pub use Rattle.fv_marks.specs.LostMarks.{Loses, ChangesPart, unmarked_at, LosesOwn, DataLose, EachFileLoses, FilesLose, VolumeLoses}
pub use Rattle.fv_marks.specs.LostMarks.{FramesLose, StreamLoses, BodyLoses, VolumeLosesMarks, StreamLosesMarks}
pub use Rattle.fv_marks.specs.LostMarks.{OnlyMarksChange}
