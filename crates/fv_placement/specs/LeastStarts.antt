-- The least starts of the files of a volume (PI specification, volume 3, section 3.2.3.1, for the alignment of data and
-- the pads between files).
use Rattle.std.specs.Prelude.{◌≡◌, ℕ, ◌+◌, ◌≤◌, List, [], ◌∷◌, MatchBool}
use Rattle.fv_base.specs.Words.{up_to_8}
use Rattle.fv_placement.specs.Starts.{Lawful}
use Rattle.fv_placement.specs.declared.first_placement.PlacementItem.{PlacementItem}

-- s is the least start that is lawful after the edge e. For the volume top file, s is the start with which the file
-- ends at the volume's end
abbrev pub IsLeastStart : ℕ → ℕ → PlacementItem → ℕ → Type 0
IsLeastStart total e f s = MatchBool f.top (s + f.size ≡ total) (Lawful e f s × ((t : ℕ) → Lawful e f t → s ≤ t))

-- each file is at its least start after the preceding edge. These starts need not be a placement
abbrev pub IsLeast : ℕ → ℕ → List PlacementItem → List ℕ → Type 0
IsLeast total e [] [] = Unit {0}
IsLeast total e [] (s ∷ ss) = ⊥
IsLeast total e (f ∷ fs) [] = ⊥
IsLeast total e (f ∷ fs) (s ∷ ss) = IsLeastStart total e f s × IsLeast total (up_to_8 (s + f.size)) fs ss
