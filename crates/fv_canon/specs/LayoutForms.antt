-- The starts of the files at every level, in the first placement and as least starts, and layouts as they are kept in
-- memory.
use Rattle.std.specs.Prelude.{◌≡◌, ℕ, List, [], ◌∷◌, ◌++◌, length}
use Rattle.fv_canon.specs.Layouts.{placement_items, AreStarts}
use Rattle.fv_placement.specs.Words.{IsLeast, Placement}
use Rattle.fv_tree.specs.Words.{Inside, volumes_in, Meaning, head_of, length_of, files_of}
use Rattle.fv_head.specs.Words.{first_edge}

-- these are the least starts of the volume's own files, and they are a placement
abbrev pub AreLeast : Meaning → List ℕ → Type 0
AreLeast m starts =
    IsLeast (length_of m) (first_edge (head_of m) (head_of m).ext) (placement_items m) starts
    × Placement (length_of m) (first_edge (head_of m) (head_of m).ext) (placement_items m) starts

-- the list consists of the starts of each volume's own files, volume after volume. `are_own` is the condition on the
-- starts of one volume
abbrev pub StartsOfEach : (Meaning → List ℕ → Type 0) → List Inside → List ℕ → Type 0
StartsOfEach are_own [] starts = starts ≡ []
StartsOfEach are_own (v ∷ vs) starts =
    (own : List ℕ) × (inner : List ℕ) × (starts ≡ own ++ inner) × are_own v.volume own × StartsOfEach are_own vs inner

-- the list consists of the starts of the volume's own files, and then the starts of the files of the volumes inside it,
-- in preorder
abbrev pub AreAllStarts : Meaning → List ℕ → Type 0
AreAllStarts m starts = StartsOfEach AreStarts (volumes_in m) starts

-- the list begins with the starts of the files of these volumes, volume after volume; other starts may follow
abbrev pub BeginsWithStarts : List Inside → List ℕ → Type 0
BeginsWithStarts vs starts = (laid : List ℕ) × (more : List ℕ) × (starts ≡ laid ++ more) × StartsOfEach AreStarts vs laid

-- the same as `AreAllStarts`, but with the least starts of each volume
abbrev pub AreAllLeastStarts : Meaning → List ℕ → Type 0
AreAllLeastStarts m starts = StartsOfEach AreLeast (volumes_in m) starts

-- a layout in two parts: the starts of the volume's own files, and the starts of the files of the volumes inside it, in
-- preorder
pub record LayoutParts : Type 0 where
  pub own : List ℕ
  pub inner : List ℕ

-- these are the starts of the files at every level in the canonical image, and `own` has one start for each of the
-- volume's own files
abbrev pub IsLayout : Meaning → LayoutParts → Type 0
IsLayout m l = AreAllStarts m (l.own ++ l.inner) × (length l.own ≡ length (files_of m))
