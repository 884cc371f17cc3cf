-- Where the files of a volume may be placed: lawful starts, placements, and the first placement (PI specification,
-- volume 3, section 3.2.3.1, for the alignment of data and the pads between files).
use Rattle.std.specs.Prelude.{◌≡◌, ℕ, ◌+◌, ◌%◌, ◌≤◌, ◌⊎◌, List, [], ◌∷◌, take, get_or, IsTrue}
use Rattle.fv_base.specs.Words.{up_to_8}
use Rattle.fv_placement.specs.declared.first_placement.PlacementItem.{PlacementItem}

-- the file f may begin at s after the edge e: s is a multiple of 8, the file's data are aligned, and s is e itself or
-- at least 24 bytes after e, so that a pad fits in the gap
pub record Lawful (e : ℕ) (f : PlacementItem) (s : ℕ) : Type 0 where
  pub eighth : s % 8 ≡ 0
  pub gap : (s ≡ e) ⊎ (e + 24 ≤ s)
  pub aligned : (s + f.header) % f.alignment ≡ 0

-- s is a start of the file f in a volume of `total` bytes: it is lawful after the edge e, the file ends within the
-- volume, and a volume top file ends where the volume ends
pub record IsStartInVolume (total e : ℕ) (f : PlacementItem) (s : ℕ) : Type 0 where
  pub lawful : Lawful e f s
  pub within : s + f.size ≤ total
  pub at_end : IsTrue f.top → s + f.size ≡ total

-- there is one start for each file, and it is a start of the file after the preceding edge (`IsStartInVolume`). The
-- preceding edge of the first file is e. For any other file it is the end of the previous file, rounded up to 8
abbrev pub StartsFollow : ℕ → ℕ → List PlacementItem → List ℕ → Type 0
StartsFollow total e [] [] = Unit {0}
StartsFollow total e [] (s ∷ ss) = ⊥
StartsFollow total e (f ∷ fs) [] = ⊥
StartsFollow total e (f ∷ fs) (s ∷ ss) = IsStartInVolume total e f s × StartsFollow total (up_to_8 (s + f.size)) fs ss

-- the files can be placed at these starts in a volume of `total` bytes, and the first edge `first` is within the volume
pub record Placement (total first : ℕ) (fs : List PlacementItem) (starts : List ℕ) : Type 0 where
  pub room : first ≤ total
  pub follow : StartsFollow total first fs starts

-- the starts are the first placement: each start is the least among all placements with the same earlier starts
pub record IsFirstPlacement (total first : ℕ) (fs : List PlacementItem) (starts : List ℕ) : Type 0 where
  pub placement : Placement total first fs starts
  pub least : (others : List ℕ) (i : ℕ) → Placement total first fs others → take i others ≡ take i starts
      → get_or starts i 0 ≤ get_or others i 0
