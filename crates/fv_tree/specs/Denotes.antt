-- Which bytes are a volume with a given meaning (PI specification, volume 3, sections 3.2.1 to 3.2.5). `MeansSection`,
-- `Stream` and `Denotes` take the number of levels to which groups and opened volumes may nest. `MeansSection` is
-- recursive: it uses itself with this number less 1.
use Rattle.std.specs.Prelude.{◌≡◌, ◌≢◌, ℕ, zero, suc, ◌≤◌, ◌==◌, ◌&&◌, ◌||◌, Bool, true, false, nat_le, List, [], ◌∷◌}
use Rattle.std.specs.Prelude.{length, drop}
use Rattle.fv_base.specs.Words.{depth_limit, IsBytes, field, le_at}
use Rattle.fv_base.specs.declared.flash.FileSystem.{FileSystem}
use Rattle.fv_file.specs.Words.{CellForm, Tiles, attribute_bits, without_large}
use Rattle.fv_head.specs.Words.{BeginsVolume, signature_bytes, system_guid}
use Rattle.fv_head.specs.declared.extent.Extent.{Extent}
use Rattle.fv_section.specs.Words.{FrameForm, Splits}
use Rattle.fv_tree.specs.Meaning.{Meaning, FileMeaning, File, ContentMeaning, Plain, Sectioned, SectionMeaning}
use Rattle.fv_tree.specs.Meaning.{Section, BodyMeaning, Leaf, Group, Nested, sections_list, head_of, files_of}
use Rattle.fv_tree.specs.VolumeFiles.{FileForm, AreCurrent, files_in}

-- the type of a section that groups others, 03; and the type of a section that may hold a volume, 17 (section 3.2.5,
-- EFI_SECTION_DISPOSABLE and EFI_SECTION_FIRMWARE_VOLUME_IMAGE)
abbrev pub group_kind : ℕ
group_kind = 0x03

abbrev pub volume_kind : ℕ
volume_kind = 0x17

-- the condition under which the body of a section of type 17 is opened as a volume: the body has at least 56 bytes, the
-- signature, the GUID of a file system, and its own length as FvLength. The condition does not include the type of the
-- section
pub record Opens (b : List ℕ) : Type 0 where
  pub least : 56 ≤ length b
  pub signature : field 40 4 b ≡ signature_bytes
  pub file_system : (system : FileSystem) × (field 16 16 b ≡ system_guid system)
  pub length_is : le_at 32 8 b ≡ length b

-- whether files of this type hold sections: types 02 and 04 to 0F do (section 3.2.3, EFI_FV_FILETYPE_FREEFORM, and
-- EFI_FV_FILETYPE_PEI_CORE to EFI_FV_FILETYPE_MM_CORE_STANDALONE)
abbrev pub holds_sections : ℕ → Bool
holds_sections kind = (kind == 0x02) || (nat_le 0x04 kind && nat_le kind 0x0f)

-- the two lists have the same length, and R holds for each pair of items at the same position
abbrev pub Pairwise : {A B : Type 0} → (A → B → Type 0) → List A → List B → Type 0
Pairwise R [] [] = Unit {0}
Pairwise R [] (y ∷ ys) = ⊥
Pairwise R (x ∷ xs) [] = ⊥
Pairwise R (x ∷ xs) (y ∷ ys) = R x y × Pairwise R xs ys

-- ---- the meaning of bytes, given the meaning of the parts inside them: these definitions take relations for the parts,
-- and MeansSection closes the recursion

-- a relation of two things: a frame and a section
abbrev pub SectionRelation : Type 1
SectionRelation = FrameForm → SectionMeaning → Type 0

-- a relation of three things: the sections of a stream, the number of bytes after the last section, and the bytes of the
-- stream
abbrev pub StreamRelation : Type 1
StreamRelation = List SectionMeaning → ℕ → List ℕ → Type 0

-- a relation of two things: the bytes of a volume and a meaning
abbrev pub VolumeRelation : Type 1
VolumeRelation = List ℕ → Meaning → Type 0

-- the bytes are a stream of these sections, with `tail` bytes after the last
abbrev pub StreamOver : SectionRelation → StreamRelation
StreamOver is_section sections tail b =
    (frames : List FrameForm) × Splits frames tail b × Pairwise is_section frames sections

-- the data of a file of this type have this content
abbrev pub MeansContent : StreamRelation → ℕ → List ℕ → ContentMeaning → Type 0
MeansContent is_stream kind payload (Plain b) = (holds_sections kind ≡ false) × (b ≡ payload)
MeansContent is_stream kind payload (Sectioned sections tail) =
    (holds_sections kind ≡ true) × is_stream (sections_list sections) tail payload

-- the stored file has this meaning
abbrev pub MeansFile : StreamRelation → FileForm → FileMeaning → Type 0
MeansFile is_stream f (File name kind attributes content) =
    (name ≡ f.head.name) × (kind ≡ f.head.kind) × (attributes ≡ without_large (attribute_bits f.head.attributes))
    × MeansContent is_stream kind f.payload content

-- the bytes are a volume with this meaning: there are FvLength of them, they begin with its header, cells tile its
-- body, which begins where the first file may begin, and the files that `AreCurrent` selects from these cells have the
-- meanings of its files
pub record VolumeOver (is_stream : StreamRelation) (b : List ℕ) (m : Meaning) : Type 0 where
  pub extent : Extent
  pub begins : BeginsVolume (head_of m) extent b
  pub length_is : length b ≡ extent.length
  pub cells : List CellForm
  pub tiles : Tiles extent.file_system extent.polarity extent.first cells (drop extent.first b)
  pub files : List FileForm
  pub current : AreCurrent extent.length (files_in cells) files
  pub meanings : Pairwise (MeansFile is_stream) files (files_of m)

-- the body of the frame has this meaning: the body of a group is a stream; the body of a section of type 17 is a volume
-- if it `Opens`; and any other body is a leaf
abbrev pub MeansBody : StreamRelation → VolumeRelation → FrameForm → BodyMeaning → Type 0
MeansBody is_stream is_volume f (Leaf b) =
    (f.kind ≢ group_kind) × (f.kind ≡ volume_kind → Opens f.body → ⊥) × (b ≡ f.body)
MeansBody is_stream is_volume f (Group sections tail) =
    (f.kind ≡ group_kind) × is_stream (sections_list sections) tail f.body
MeansBody is_stream is_volume f (Nested volume) = (f.kind ≡ volume_kind) × Opens f.body × is_volume f.body volume

-- the frame is this section: type, form of the header and body agree
abbrev pub SectionOver : StreamRelation → VolumeRelation → SectionRelation
SectionOver is_stream is_volume f (Section kind extended body) =
    (kind ≡ f.kind) × (extended ≡ f.extended) × MeansBody is_stream is_volume f body

-- ---- the recursion

-- the frame is this section, in which groups and opened volumes, including the section itself, nest at most n deep. If
-- n is 0, the section is a leaf
abbrev pub MeansSection : ℕ → SectionRelation
MeansSection zero = SectionOver (λ _ _ _. ⊥) (λ _ _. ⊥)
MeansSection (suc n) = SectionOver (StreamOver (MeansSection n)) (VolumeOver (StreamOver (MeansSection n)))

-- the bytes are a stream of these sections, with `tail` bytes after the last; groups and opened volumes nest at most n
-- deep
abbrev pub Stream : ℕ → StreamRelation
Stream n = StreamOver (MeansSection n)

-- the bytes are a volume with this meaning, in which groups and opened volumes nest at most n deep
abbrev pub Denotes : ℕ → VolumeRelation
Denotes n = VolumeOver (Stream n)

-- the bytes, each of them below 256, are accepted as a volume with this meaning: groups and opened volumes nest at most
-- `depth_limit` deep
abbrev pub Accepted : VolumeRelation
Accepted b m = IsBytes b × Denotes depth_limit b m

-- ---- a fact about everything that was read

-- some bytes are a volume with this meaning; this is true of every `VolumeView`
abbrev pub IsMeaning : Meaning → Type 0
IsMeaning m = (n : ℕ) × (n ≤ depth_limit) × (b : List ℕ) × IsBytes b × Denotes n b m
