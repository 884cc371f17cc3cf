-- From a volume to its canonical image, and the clauses of the first two sentences of the headline, which
-- `src/headline.rt` states.
use Rattle.std.specs.Prelude.{◌≡◌, ◌↔◌, ◌+◌, ◌%◌, ◌++◌, true, ℕ, List, length, take, drop}
use Rattle.std.specs.List.{AllByRecursion}
use Rattle.fv_base.specs.Words.{alignment_of, sum16_of}
use Rattle.fv_file.specs.Words.{CellForm, Valid, Pad, Tiles, attribute_bits, file_sum_right, fixed_checksum}
use Rattle.fv_file.specs.Words.{header_sum_of}
use Rattle.fv_head.specs.Words.{BeginsVolume}
use Rattle.fv_head.specs.declared.extent.Extent.{Extent}
use Rattle.fv_tree.specs.Words.{Accepted, IsMeaning, Meaning, head_of, files_in, Inside, volumes_in}
use Rattle.fv_canon.specs.Image.{IsImage}
use Rattle.fv_canon.specs.Layouts.{Fits}

-- the input is a volume, and `image` is the canonical image of its meaning
abbrev pub NormalisesTo : List ℕ → List ℕ → Type 0
NormalisesTo input image = (m : Meaning) × Accepted input m × IsImage m image

-- a and b are volumes with the same meaning
abbrev pub MeanSame : List ℕ → List ℕ → Type 0
MeanSame a b = (m : Meaning) × Accepted a m × Accepted b m

-- ---- the headline

-- two volumes that have canonical images have the same meaning exactly if these images are equal
abbrev pub SameMeaningIffSameImage : Type 0
SameMeaningIffSameImage =
    (a b image other : List ℕ) → NormalisesTo a image → NormalisesTo b other → (MeanSame a b ↔ (image ≡ other))

-- the canonical image of a volume is as long as the volume, and is a volume with the same meaning
abbrev pub ImageKeepsLengthAndMeaning : Type 0
ImageKeepsLengthAndMeaning = (a image : List ℕ) → NormalisesTo a image → (length image ≡ length a) × MeanSame a image

-- the canonical image of a volume is its own canonical image
abbrev pub ImageIsItsOwnImage : Type 0
ImageIsItsOwnImage = (a image : List ℕ) → NormalisesTo a image → NormalisesTo image image

-- the data of each file among these cells are aligned, counted from the volume's first byte (PI specification, volume
-- 3, section 3.2.3.1)
abbrev pub DataAligned : List CellForm → Type 0
DataAligned cells = AllByRecursion
    (λ f. (f.offset + f.head.header_len) % alignment_of (attribute_bits f.head.attributes) ≡ 0) (files_in cells)

-- in the canonical image of a volume, the data of each file are aligned, whichever cells tile the body
abbrev pub DataAreAligned : Type 0
DataAreAligned =
    (m : Meaning) (image : List ℕ) (e : Extent) (cells : List CellForm) → IsMeaning m → IsImage m image
    → BeginsVolume (head_of m) e image
    → Tiles e.file_system e.polarity e.first cells (drop e.first image) → DataAligned cells

-- the checksums of a file or a pad at its offset in b are right: its header sums to zero, a file's file checksum is
-- right, and a pad's file checksum is the fixed value (PI specification, volume 3, section 3.2.3.1)
abbrev pub CellSums : List ℕ → CellForm → Type 0
CellSums b (Valid at head payload) =
    (header_sum_of (take head.header_len (drop at b)) ≡ 0)
    × (file_sum_right (attribute_bits head.attributes) head.file_sum payload ≡ true)
CellSums b (Pad at head _) = (header_sum_of (take head.header_len (drop at b)) ≡ 0) × (head.file_sum ≡ fixed_checksum)
CellSums b _ = Unit {0}

-- a canonical image begins with the volume header, whose words sum to zero, and cells with right checksums tile the
-- rest. If there is an extended header, its pad is the first of these cells
abbrev pub SumsAreRight : Type 0
SumsAreRight =
    (m : Meaning) (image : List ℕ) → IsMeaning m → IsImage m image
    → (e : Extent) × BeginsVolume (head_of m) e image × (sum16_of (take e.header_len image) ≡ 0)
    × ((cells : List CellForm) × Tiles e.file_system e.polarity e.header_len cells (drop e.header_len image)
    × AllByRecursion (CellSums image) cells)

-- a volume fits exactly if it has a canonical image
abbrev pub WhatFitsHasAnImage : Type 0
WhatFitsHasAnImage = (m : Meaning) → IsMeaning m → (Fits m ↔ ((image : List ℕ) × IsImage m image))

-- ---- at every level

-- `part` is a list of consecutive bytes of `whole`
abbrev pub IsWithin : List ℕ → List ℕ → Type 0
IsWithin part whole = (before : List ℕ) × (after : List ℕ) × (whole ≡ before ++ (part ++ after))

-- `whole` contains the canonical image of the volume v as consecutive bytes
abbrev pub HasOwnImage : List ℕ → Inside → Type 0
HasOwnImage whole v = (own : List ℕ) × IsImage v.volume own × IsWithin own whole

-- for a volume and for each volume inside it, some bytes have that volume's meaning, and the canonical image of the
-- outer volume contains that volume's canonical image as consecutive bytes
abbrev pub EachVolumeHasItsImage : Type 0
EachVolumeHasItsImage =
    (m : Meaning) (image : List ℕ) → IsMeaning m → IsImage m image
    → AllByRecursion (λ v. IsMeaning v.volume × HasOwnImage image v) (volumes_in m)
