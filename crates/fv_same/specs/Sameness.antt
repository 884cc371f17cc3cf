-- Two images mean the same at every level, and where they first differ.
use Rattle.std.specs.Prelude.{◌≡◌, ◌≢◌, ℕ, List, take, map, slice_get, option_map}
use Rattle.fv_budget.specs.declared.budget.Budget.{Budget}
use Rattle.fv_levels.specs.Words.{levels_of}
use Rattle.fv_same.specs.Parts.{PartForm, PlacedPart, parts_of}
use Rattle.fv_same.specs.declared.difference.Difference.{Difference}

-- two images mean the same at every level, if their packed sections are opened within this budget: their parts are equal
abbrev pub Same : Budget → List ℕ → List ℕ → Type 0
Same s a b = parts_of (levels_of a s) ≡ parts_of (levels_of b s)

-- the parts without their places
abbrev pub without_places : List PlacedPart → List PartForm
without_places ps = map (λ p. p.part) ps

-- the difference has the places of the first parts in which these lists differ: the parts before them are equal, and
-- they are not equal, or only one list has a part there
pub record FirstDiffers (d : Difference) (ps qs : List PlacedPart) : Type 0 where
  pub number : ℕ
  pub before : without_places (take number ps) ≡ without_places (take number qs)
  pub differ : option_map (λ (p : PlacedPart). p.part) (slice_get ps number) ≢ option_map (λ (p : PlacedPart). p.part) (slice_get qs number)
  pub first : d.first ≡ option_map (λ (p : PlacedPart). p.place) (slice_get ps number)
  pub second : d.second ≡ option_map (λ (p : PlacedPart). p.place) (slice_get qs number)
