-- The bytes that a walk writes for a volume that was read and laid out are the image of the volume. The steps:
-- 1. The statements about the parts inside: sections, streams and volumes are written as their images (`SectionsMade`,
--    `StreamsMade`, `VolumesMade`).
-- 2. A stream is written as its image, frame by frame, if its sections are (`frames_made`, `stream_made`,
--    `section_made`).
-- 3. A volume is written as its image, file by file, if the streams in it are (`files_made`, `volume_made`).
-- 4. By induction on the nesting depth each section is written as its image (`sections_made`), and so is each stream
--    (`streams_made`) and each volume.
use Rattle.std.proofs.Common.{◌+◌, ℕ, [], ◌∷◌, zero, suc, List, length, take, drop, refl, arith}
use Rattle.fv_base.proofs.Laws.{common_steps, AllByRecursion, IsBytes, bytes_drop}
use Rattle.fv_base.specs.declared.flash.FileSystem.{FileSystem}
use Rattle.fv_section.specs.Words.{FrameForm, frame_len, up_to_4, HasFrameAt}
use Rattle.fv_section.proofs.Laws.{begun_bytes, split_stands}
use Rattle.fv_tree.specs.Words.{Meaning, Volume, FileMeanings, NoFiles, MoreFiles, File, ContentMeaning, Plain, Sectioned, SectionMeanings}
use Rattle.fv_tree.specs.Words.{NoSections, MoreSections, SectionMeaning, Section, Leaf, Group, Nested, files_list, sections_list, Inside}
use Rattle.fv_tree.specs.Words.{SectionRelation, StreamRelation, VolumeRelation, Pairwise, StreamOver, SectionOver, MeansContent, MeansFile}
use Rattle.fv_tree.specs.Words.{MeansSection, Stream, Denotes, FileForm, volumes_in, volumes_in_files, volumes_in_content, volumes_in_sections}
use Rattle.fv_tree.specs.Words.{volumes_in_section}
use Rattle.fv_canon.specs.Words.{IsImage, AreStored, IsData, AreFrames, IsFrame, BeginsWithStarts}
use Rattle.fv_canon.specs.inner.ImageOf.{starts_in, image_of, stored_of, written_data, written_frames, frame_of}
use Rattle.fv_canon.proofs.VolumeListLaws.{begins_own, begins_split, begins_higher, each_weaker}
use Rattle.fv_canon.proofs.PlacedBytesLaws.{volume_written}
use Rattle.fv_canon.proofs.VolumeImageLaws.{known, files_read, streams_again}
use Rattle.fv_canon.proofs.ReadLaws.{FileIsAccepted}

-- ---- the statements about the parts inside
abbrev pub SectionsMade : SectionRelation → Type 0
SectionsMade is_section = (s : SectionMeaning) (f : FrameForm) (at : ℕ) (starts : List ℕ) → IsBytes f.body → is_section f s
    → BeginsWithStarts (volumes_in_section s) starts → IsFrame s (frame_of at s starts)

abbrev pub StreamsMade : StreamRelation → Type 0
StreamsMade is_stream = (ss : SectionMeanings) (tail : ℕ) (b starts : List ℕ) → IsBytes b → is_stream (sections_list ss) tail b
    → BeginsWithStarts (volumes_in_sections ss) starts → AreFrames 0 ss (written_frames 0 ss starts)

abbrev pub VolumesMade : VolumeRelation → Type 0
VolumesMade is_volume = (m : Meaning) (b starts : List ℕ) → IsBytes b → is_volume b m → BeginsWithStarts (volumes_in m) starts
    → IsImage m (image_of m starts)

-- ---- frame by frame

frames_made : (is_section : SectionRelation) → SectionsMade is_section → (at : ℕ) (ss : SectionMeanings) (fs : List FrameForm)
    (starts : List ℕ) → AllByRecursion (λ f. IsBytes f.body) fs → Pairwise is_section fs (sections_list ss)
    → BeginsWithStarts (volumes_in_sections ss) starts → AreFrames at ss (written_frames at ss starts)
frames_made is_section made at NoSections fs starts small p begins = refl
frames_made is_section made at (MoreSections s ss) [] starts small p begins = absurd p
frames_made is_section made at (MoreSections (Section kind extended body) ss) (f ∷ fs) starts small p begins =
    let s : SectionMeaning = Section kind extended body in
    let parts = begins_split (volumes_in_section s) (volumes_in_sections ss) starts begins in (
      refl,
      made s f at starts small.0 p.0 parts.0,
      frames_made is_section made (up_to_4 (at + frame_len (frame_of at s starts))) ss fs (drop (starts_in (volumes_in_section s)) starts)
          small.1 p.1 parts.1,
    )

-- the bodies of the frames of a list of bytes are lists of bytes, so the stream is written as its image
stream_made : (is_section : SectionRelation) → SectionsMade is_section → StreamsMade (StreamOver is_section)
stream_made is_section made ss tail b starts small (fs, split, pairs) begins =
    frames_made is_section made 0 ss fs starts (each_weaker (λ f. HasFrameAt f f.offset b) (λ f. IsBytes f.body)
    (λ f at. (begun_bytes f (drop f.offset b) at.rest (bytes_drop f.offset b small) at.begins).0) fs (split_stands fs tail b split)) pairs begins

section_made : (is_stream : StreamRelation) (is_volume : VolumeRelation) → StreamsMade is_stream → VolumesMade is_volume
    → SectionsMade (SectionOver is_stream is_volume)
section_made is_stream is_volume streams volumes (Section kind extended (Leaf body)) f at starts small is begins = (refl, refl, refl)
section_made is_stream is_volume streams volumes (Section kind extended (Group sections tail)) f at starts small is begins =
    grind (arith, common_steps, begins_higher) steps 400000
section_made is_stream is_volume streams volumes (Section kind extended (Nested volume)) f at starts small is begins =
    (refl, refl, volumes volume f.body starts small is.2.2 (begins_higher (volumes_in volume) starts begins))

-- ---- file by file
module _ (is_stream : StreamRelation) (streams : StreamsMade is_stream) where
  -- the data of a file are written as in the image
  pub data_made : (kind : ℕ) (content : ContentMeaning) (payload starts : List ℕ) → IsBytes payload → MeansContent is_stream kind payload content
      → BeginsWithStarts (volumes_in_content content) starts → IsData content (written_data content starts)
  data_made kind (Plain b) payload starts small is begins = refl
  data_made kind (Sectioned sections tail) payload starts small (sectioned, is) begins =
      (written_frames 0 sections starts, streams sections tail payload starts small is begins, refl)

  pub files_made : (system : FileSystem) (limit : ℕ) (files : FileMeanings) (forms : List FileForm) (starts : List ℕ)
      → AllByRecursion (FileIsAccepted system limit) forms → Pairwise (MeansFile is_stream) forms (files_list files)
      → BeginsWithStarts (volumes_in_files files) starts → AreStored files (stored_of files starts)
  files_made system limit NoFiles forms starts reads pairs begins = refl
  files_made system limit (MoreFiles m ms) [] starts reads pairs begins = absurd pairs
  files_made system limit (MoreFiles (File name kind attributes content) ms) (f ∷ fs) starts reads pairs begins =
      let inside : List Inside = volumes_in_content content in
      let parts = begins_split inside (volumes_in_files ms) starts begins in (
        (refl, refl, refl, data_made kind content f.payload starts reads.0.payload pairs.0.3 parts.0),
        files_made system limit ms fs (drop (starts_in inside) starts) reads.1 pairs.1 parts.1,
      )

-- ---- the volume
pub volume_made : (n : ℕ) → StreamsMade (Stream n) → VolumesMade (Denotes n)
volume_made n streams (Volume h files) b starts small d begins =
    let count : ℕ = length (files_list files) in
    let own = begins_own (record { depth = 0; volume = Volume h files }) (volumes_in_files files) count starts refl begins in
    let stored = stored_of files (drop count starts) in
    let are : AreStored files stored = files_made (Stream n) streams h.file_system (length (drop d.extent.first b)) files d.files
    (drop count starts) (files_read n h files b small d) d.meanings own.2 in
    let k = (known n (streams_again n) h files b small d stored (take count starts) are own.1).writable in
    (stored, take count starts, are, own.1, volume_written h stored (take count starts) k)

-- ---- all volumes
pub sections_made : (n : ℕ) → SectionsMade (MeansSection n)
sections_made zero =
    section_made (λ _ _ _. ⊥) (λ _ _. ⊥) (λ ss tail b starts small none begins. absurd none) (λ m b starts small none begins. absurd none)
sections_made (suc n) =
    let streams = stream_made (MeansSection n) (sections_made n) in section_made (Stream n) (Denotes n) streams (volume_made n streams)

pub streams_made : (n : ℕ) → StreamsMade (Stream n)
streams_made n = stream_made (MeansSection n) (sections_made n)
