-- The canonical image part by part, in the order in which a walk writes it, and the number of starts that it needs.
use Rattle.std.specs.Prelude.{ℕ, ◌+◌, ◌-◌, List, [], ◌∷◌, ◌++◌, length, replicate, take, drop}
use Rattle.fv_base.specs.Words.{erased_byte, up_to_8}
use Rattle.fv_base.specs.declared.flash.Polarity.{Polarity}
use Rattle.fv_head.specs.Words.{HeadFields, canonical_head, canonical_end, first_edge, polarity_of}
use Rattle.fv_canon.specs.StoredFiles.{StoredFile, stored_len, stored_bytes, gap_bytes, ext_pad, used_size}
use Rattle.fv_tree.specs.Words.{ContentMeaning, Plain, Sectioned, BodyMeaning, Leaf, Group, FileMeaning, content_of}
use Rattle.fv_tree.specs.Words.{Meaning, Volume, FileMeanings, NoFiles, MoreFiles, File, SectionMeanings, NoSections}
use Rattle.fv_tree.specs.Words.{MoreSections, SectionMeaning, Section, Nested, files_list, files_of, Inside}
use Rattle.fv_tree.specs.Words.{volumes_in_file, volumes_in_section}
use Rattle.fv_section.specs.Words.{FrameForm, frame_len, up_to_4, stream_of}

-- the bytes of a volume from the edge e to its end: for each file, the pads of the preceding gap, the file, and erased
-- bytes up to the next edge; then erased bytes up to the end
abbrev pub files_bytes : Polarity → ℕ → ℕ → List StoredFile → List ℕ → List ℕ
files_bytes polarity total e [] starts = replicate (total - e) (erased_byte polarity)
files_bytes polarity total e (f ∷ fs) [] = replicate (total - e) (erased_byte polarity)
files_bytes polarity total e (f ∷ fs) (s ∷ ss) =
    gap_bytes polarity (s - e)
    ++ (stored_bytes polarity f
    ++ (replicate (up_to_8 (s + stored_len f) - (s + stored_len f)) (erased_byte polarity)
    ++ files_bytes polarity total (up_to_8 (s + stored_len f)) fs ss))

-- the bytes of a volume: its header, the pad with the extended header, erased bytes up to the first edge, and the files
abbrev pub volume_bytes : HeadFields → List StoredFile → List ℕ → List ℕ
volume_bytes h files starts =
    canonical_head h
    ++ (ext_pad (polarity_of h.attributes) h.ext (used_size (first_edge h h.ext) files starts)
    ++ (replicate (first_edge h h.ext - canonical_end h h.ext) (erased_byte (polarity_of h.attributes))
    ++ files_bytes (polarity_of h.attributes) h.length (first_edge h h.ext) files starts))

abbrev pub as_body : ContentMeaning → BodyMeaning
as_body (Plain b) = Leaf b
as_body (Sectioned sections tail) = Group sections tail

-- the data of a file, in the form of a section's body
abbrev pub data_body : FileMeaning → BodyMeaning
data_body m = as_body (content_of m)

-- the number of starts of the files of these volumes: each file has one start
abbrev pub starts_in : List Inside → ℕ
starts_in [] = 0
starts_in (v ∷ vs) = length (files_of v.volume) + starts_in vs

-- the canonical image and its parts, given the starts of the files
abbrev mutual
  pub image_of : Meaning → List ℕ → List ℕ
  image_of (Volume h files) starts =
      volume_bytes h (stored_of files (drop (length (files_list files)) starts))
      (take (length (files_list files)) starts)

  pub stored_of : FileMeanings → List ℕ → List StoredFile
  stored_of NoFiles starts = []
  stored_of (MoreFiles f fs) starts = stored_file f starts ∷ stored_of fs (drop (starts_in (volumes_in_file f)) starts)

  pub stored_file : FileMeaning → List ℕ → StoredFile
  stored_file (File name kind attributes content) starts =
      record { name = name; kind = kind; attributes = attributes; payload = written_data content starts }

  pub written_data : ContentMeaning → List ℕ → List ℕ
  written_data (Plain b) starts = b
  written_data (Sectioned sections tail) starts = stream_of (written_frames 0 sections starts) tail

  pub written_frames : ℕ → SectionMeanings → List ℕ → List FrameForm
  written_frames at NoSections starts = []
  written_frames at (MoreSections s ss) starts =
      frame_of at s starts
      ∷ written_frames (up_to_4 (at + frame_len (frame_of at s starts))) ss
      (drop (starts_in (volumes_in_section s)) starts)

  pub frame_of : ℕ → SectionMeaning → List ℕ → FrameForm
  frame_of at (Section kind extended body) starts =
      record { offset = at; kind = kind; extended = extended; body = body_image body starts }

  pub body_image : BodyMeaning → List ℕ → List ℕ
  body_image (Leaf b) starts = b
  body_image (Group sections tail) starts = stream_of (written_frames 0 sections starts) tail
  body_image (Nested volume) starts = image_of volume starts
