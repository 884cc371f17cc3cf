-- How the tolerant reading agrees with the strict one (docs/FORMAT.md, "A tolerant reading"; PI specification, volume
-- 3, section 3.2).
use Rattle.std.specs.Prelude.{◌≡◌, ◌<◌, ◌+◌, ◌-◌, ℕ, false, true, List, [], ◌∷◌, drop, length}
use Rattle.fv_base.specs.Words.{field}
use Rattle.fv_base.specs.declared.flash.FileSystem.{FileSystem}
use Rattle.fv_base.specs.declared.flash.FileSystem.TheVariants as systems
use Rattle.fv_file.specs.Words.{CellForm, Valid, Pad, offset_of}
use Rattle.fv_head.specs.declared.extent.Extent.{Extent}
use Rattle.fv_section.specs.Words.{FrameForm, frame_len, has_extended_size, section_size_at, up_to_4}
use Rattle.fv_survey.specs.declared.pieces.Layout.{Layout}
use Rattle.fv_survey.specs.declared.systems.Files.{Files}
use Rattle.fv_survey.specs.declared.systems.Files.TheVariants as files
use Rattle.fv_survey.specs.FindingSets.{none}
use Rattle.fv_survey.specs.PieceRules.{IsCellPiece, piece_by, system_by}
use Rattle.fv_survey.specs.Reading.{body_at, kind_at, next_at}
use Rattle.fv_survey.specs.SectionRules.{begins_section}
use Rattle.fv_survey.specs.VolumeRules.{parts_by, volume_end}

-- ---- a header

-- how the files of a volume with this file system are read
abbrev pub files_for : FileSystem → Files
files_for systems.Ffs2 = files.Ffs2
files_for systems.Ffs3 = files.Ffs3

-- the reading of the bytes b as a volume finds this strict extent: the same lengths of header and volume, the same
-- start of the body, the same file system and the same erase polarity. The volume is not cut off, and its header has
-- no findings
pub record SameExtent (e : Extent) (b : List ℕ) : Type 0 where
  pub header : (parts_by b).header ≡ e.header_len
  pub first : (parts_by b).first ≡ e.first
  pub files : (parts_by b).files ≡ files_for e.file_system
  pub system : system_by (parts_by b).files ≡ e.file_system
  pub polarity : (parts_by b).polarity ≡ e.polarity
  pub whole : (parts_by b).is_cut ≡ false
  pub findings : (parts_by b).findings ≡ none
  pub end : volume_end b ≡ e.length

-- ---- cells

-- the data of the file or pad that r begins with are the bytes after its header
abbrev pub HasData : CellForm → List ℕ → Type 0
HasData (Valid at head payload) r = payload ≡ field head.header_len (head.size - head.header_len) r
HasData (Pad at head payload) r = payload ≡ field head.header_len (head.size - head.header_len) r
HasData _ r = Unit {0}

-- r, at the offset `at`, is read as these cells: each piece of r is one of the cells, in order, and has no findings
abbrev pub ReadAs : Layout → ℕ → List CellForm → List ℕ → Type 0
ReadAs layout at [] r = r ≡ []
ReadAs layout at (c ∷ cs) r =
    (0 < length r) × (offset_of c ≡ at) × IsCellPiece c (piece_by layout r) × ((piece_by layout r).findings ≡ none)
    × HasData c r × ReadAs layout (at + (piece_by layout r).span) cs (drop (piece_by layout r).span r)

-- ---- sections

-- b begins with the section that is this frame: the same type, form of the header, length and body
pub record SameSection (f : FrameForm) (b : List ℕ) : Type 0 where
  pub begins : begins_section b ≡ true
  pub extended : has_extended_size b ≡ f.extended
  pub size : section_size_at b ≡ frame_len f
  pub kind : kind_at b ≡ f.kind
  pub body : body_at b ≡ f.body

-- b, at the offset `at` of a stream of sections, is read as these frames: each section is one of the frames, in order,
-- and begins at its offset. The next section begins at the first multiple of 4 at or after the end of a section, so no
-- section has findings about its place. After the last section `tail` bytes follow, which are read as filler
abbrev pub SectionsAs : ℕ → List FrameForm → ℕ → List ℕ → Type 0
SectionsAs at [] tail b = (b ≡ []) × (tail ≡ 0)
SectionsAs at (f ∷ []) tail b =
    SameSection f b × (f.offset ≡ at) × (next_at b ≡ length b) × (section_size_at b + tail ≡ length b)
SectionsAs at (f ∷ g ∷ fs) tail b =
    SameSection f b × (f.offset ≡ at) × (next_at b ≡ up_to_4 (section_size_at b)) × (next_at b < length b)
    × SectionsAs (at + next_at b) (g ∷ fs) tail (drop (next_at b) b)
