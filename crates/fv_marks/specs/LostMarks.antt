-- Bytes without the marks of fixed files, at every depth at which a volume is read (PI specification, volume 3, section
-- 3.2.3.1, FFS_ATTRIB_FIXED). The recursion follows `Denotes`: a volume has files, the data of a file may be a
-- stream of sections, and the body of a section may be a stream or a volume.
use Rattle.std.specs.Prelude.{◌≡◌, ◌≢◌, ℕ, zero, suc, ◌+◌, ◌≤◌, ◌⊎◌, Bool, true, false, List, [], ◌∷◌, ◌++◌, length, take}
use Rattle.std.specs.Prelude.{drop}
use Rattle.std.specs.List.{AllByRecursion}
use Rattle.fv_base.specs.Words.{depth_limit, field}
use Rattle.fv_base.specs.declared.fault.Fault.{Fault}
use Rattle.fv_base.specs.declared.fault.FaultKind.TheVariants as kinds
use Rattle.fv_file.specs.Words.{IsFirstCellFault, unmarked}
use Rattle.fv_head.specs.Words.{BeginsWithHeader}
use Rattle.fv_head.specs.declared.extent.Extent.{Extent}
use Rattle.fv_section.specs.Words.{FrameForm, HasFrameAt, frame_len, up_to_4}
use Rattle.fv_tree.specs.Words.{BeginWithFiles, FileForm, Unfixes, body_place, data_place, holds_sections, shape_of}
use Rattle.fv_tree.specs.declared.shape.Shape.{Shape}
use Rattle.fv_tree.specs.declared.shape.Shape.TheVariants as shapes

-- a relation of two things: some bytes, and the bytes that they become
abbrev pub Loses : Type 1
Loses = List ℕ → List ℕ → Type 0

-- o is b, except that the n bytes of b at the offset p became other bytes, as `loses` relates them
abbrev pub ChangesPart : Loses → ℕ → ℕ → Loses
ChangesPart loses p n b o = (part : List ℕ) × loses (field p n b) part × (o ≡ take p b ++ (part ++ drop (p + n) b))

-- ---- one volume

-- o is b, in which the fixed files of the volume at the start of b have lost their marks, as far as its cells are right.
-- The marks are taken away one after another, each where the first fault of the body is that the file is fixed
-- (`Unfixes`). At the end, the first fault of the body, if it has one, is not Fixed. If b does not begin with the header
-- of a volume, o is b
abbrev pub LosesOwn : Loses
LosesOwn b o =
    ((BeginsWithHeader b → ⊥) × (o ≡ b))
    ⊎ ((e : Extent) × (body : List ℕ) × Unfixes e b o body
    × ((f : Fault) → IsFirstCellFault e.file_system e.polarity e.first body f → f.kind ≢ kinds.Fixed))

-- data of a file: they change as a stream does if the type of the file holds sections, and otherwise stay the same
abbrev pub DataLose : Loses → Bool → Loses
DataLose stream true b o = stream b o
DataLose stream false b o = o ≡ b

-- o is b after the data of these files changed, one file after another
abbrev pub EachFileLoses : Loses → List FileForm → Loses
EachFileLoses stream [] b o = o ≡ b
EachFileLoses stream (f ∷ fs) b o =
    (m : List ℕ) × ChangesPart (DataLose stream (holds_sections f.head.kind)) (data_place f) (length f.payload) b m
    × EachFileLoses stream fs m o

-- o is b after the data of the volume's files changed. If b does not begin with a volume whose files can be read, o is b
abbrev pub FilesLose : Loses → Loses
FilesLose stream b o =
    (((files : List FileForm) → BeginWithFiles b files → ⊥) × (o ≡ b))
    ⊎ ((files : List FileForm) × BeginWithFiles b files × EachFileLoses stream files b o)

-- o is b, in which the volume at the start of b has lost the marks of its own files, and then the data of its files
-- changed
abbrev pub VolumeLoses : Loses → Loses
VolumeLoses stream b o = (m : List ℕ) × LosesOwn b m × FilesLose stream m o

-- ---- one stream

-- o is b after the bodies of these frames changed, one frame after another, the first at the offset `at`. After the last
-- of them, no frame begins. How a body changes depends on how it is read
abbrev pub FramesLose : (Shape → Loses) → List FrameForm → ℕ → Loses
FramesLose inside [] at b o = ((g : FrameForm) → HasFrameAt g at b → ⊥) × (o ≡ b)
FramesLose inside (f ∷ fs) at b o =
    HasFrameAt f at b
    × ((m : List ℕ) × ChangesPart (inside (shape_of f)) (body_place f) (length f.body) b m
    × FramesLose inside fs (up_to_4 (at + frame_len f)) m o)

-- o is b after the bodies of the frames of the stream b changed, as far as frames begin where they should
abbrev pub StreamLoses : (Shape → Loses) → Loses
StreamLoses inside b o = (frames : List FrameForm) × FramesLose inside frames 0 b o

-- ---- the recursion

-- the body of a section that is read in this way changes: a group as a stream, and an opened volume as a volume, if
-- groups and opened volumes may nest n deep. A leaf stays the same, and so does a body that is nested deeper
abbrev pub BodyLoses : ℕ → Shape → Loses
BodyLoses n shapes.Leaf b o = o ≡ b
BodyLoses zero shapes.Group b o = o ≡ b
BodyLoses zero shapes.Volume b o = o ≡ b
BodyLoses (suc n) shapes.Group b o = StreamLoses (BodyLoses n) b o
BodyLoses (suc n) shapes.Volume b o = VolumeLoses (StreamLoses (BodyLoses n)) b o

-- o is the stream b without the marks of fixed files at every depth
abbrev pub StreamLosesMarks : Loses
StreamLosesMarks = StreamLoses (BodyLoses depth_limit)

-- o is b, in which the volume at the start of b has lost the marks of fixed files at every depth
abbrev pub VolumeLosesMarks : Loses
VolumeLosesMarks = VolumeLoses StreamLosesMarks

-- ---- which bytes change

-- the bytes b without the marks of the fixed files whose headers are at these offsets: of each file, bit 0x04 of its
-- attributes is cleared, and 4 is added to its header checksum, modulo 256 (`unmarked`)
abbrev pub unmarked_at : List ℕ → List ℕ → List ℕ
unmarked_at [] b = b
unmarked_at (p ∷ ps) b = unmarked_at ps (unmarked p b)

-- o is b, and only the marks of files whose headers lie within b have been taken away
abbrev pub OnlyMarksChange : Loses
OnlyMarksChange b o =
    (places : List ℕ) × AllByRecursion (λ p. p + 24 ≤ length b) places × (o ≡ unmarked_at places b)
