-- The canonical image of a volume (PI specification, volume 3, section 3.2).
use Rattle.std.specs.Prelude.{◌≡◌, ℕ, ◌+◌, List, [], ◌∷◌}
use Rattle.fv_base.specs.Words.{erased_byte}
use Rattle.fv_head.specs.Words.{polarity_of}
use Rattle.fv_section.specs.Words.{FrameForm, frame_len, up_to_4, stream_of}
use Rattle.fv_tree.specs.Words.{Meaning, Volume, FileMeanings, NoFiles, MoreFiles, FileMeaning, File, ContentMeaning}
use Rattle.fv_tree.specs.Words.{Plain, Sectioned, SectionMeanings, NoSections, MoreSections, SectionMeaning, Section}
use Rattle.fv_tree.specs.Words.{BodyMeaning, Leaf, Group, Nested}
use Rattle.fv_canon.specs.Layouts.{AreStarts}
use Rattle.fv_canon.specs.PlacedBytes.{ShowsPlaced}
use Rattle.fv_canon.specs.StoredFiles.{StoredFile, placed_in_volume}

-- the bytes are the canonical image of a volume with this meaning. Its files are in their first placement. The volume
-- header, the pad with the extended header, the files and the pads of the gaps are at their places, and every other
-- byte is erased. The data of each file are plain bytes, or the file's sections one after the other, with zero bytes
-- between them and after the last. The body of a group is its sections, written in the same way. A body that is a volume
-- is that volume's own canonical image. Any other body is kept as it is
abbrev mutual
  pub IsImage : Meaning → List ℕ → Type 0
  IsImage (Volume h files) b =
      (stored : List StoredFile) × (starts : List ℕ) × AreStored files stored × AreStarts (Volume h files) starts
      × ShowsPlaced h.length (erased_byte (polarity_of h.attributes)) (placed_in_volume h stored starts) b

  pub AreStored : FileMeanings → List StoredFile → Type 0
  AreStored NoFiles stored = stored ≡ []
  AreStored (MoreFiles f fs) [] = ⊥
  AreStored (MoreFiles f fs) (x ∷ xs) = IsStored f x × AreStored fs xs

  pub IsStored : FileMeaning → StoredFile → Type 0
  IsStored (File name kind attributes content) x =
      (x.name ≡ name) × (x.kind ≡ kind) × (x.attributes ≡ attributes) × IsData content x.payload

  pub IsData : ContentMeaning → List ℕ → Type 0
  IsData (Plain b) d = d ≡ b
  IsData (Sectioned sections tail) d =
      (frames : List FrameForm) × AreFrames 0 sections frames × (d ≡ stream_of frames tail)

  pub AreFrames : ℕ → SectionMeanings → List FrameForm → Type 0
  AreFrames at NoSections frames = frames ≡ []
  AreFrames at (MoreSections s ss) [] = ⊥
  AreFrames at (MoreSections s ss) (f ∷ fs) =
      (f.offset ≡ at) × IsFrame s f × AreFrames (up_to_4 (at + frame_len f)) ss fs

  pub IsFrame : SectionMeaning → FrameForm → Type 0
  IsFrame (Section kind extended body) f = (f.kind ≡ kind) × (f.extended ≡ extended) × IsBodyImage body f.body

  pub IsBodyImage : BodyMeaning → List ℕ → Type 0
  IsBodyImage (Leaf b) d = d ≡ b
  IsBodyImage (Group sections tail) d =
      (frames : List FrameForm) × AreFrames 0 sections frames × (d ≡ stream_of frames tail)
  IsBodyImage (Nested volume) d = IsImage volume d
