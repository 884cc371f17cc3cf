-- Where the files of a volume lie, for the walk that puts them.
use Rattle.std.specs.Prelude.{ℕ, List, ◌≡◌, ◌+◌, ◌≤◌, ◌%◌, [], ◌∷◌, map}
use Rattle.fv_base.specs.Words.{volume_limit}
use Rattle.fv_tree.specs.Words.{FileMeaning}
use Rattle.fv_canon.specs.Layouts.{placement_item}
use Rattle.fv_placement.specs.Words.{StartsFollow}
use Rattle.fv_placement.specs.declared.first_placement.PlacementItem.{PlacementItem}

-- the files can be placed at these starts, from the edge e on, in a volume of `total` bytes
pub record ArePlaced (total e : ℕ) (files : List FileMeaning) (starts : List ℕ) : Type 0 where
  pub follow : StartsFollow total e (map placement_item files) starts
  pub eighth : e % 8 ≡ 0
  pub after_header : 64 ≤ e
  pub within : e ≤ total
  pub multiple : total % 8 ≡ 0
  pub limit : total ≤ volume_limit

-- the offset at which the last file ends, or `end` if there is no file
abbrev pub used_by : ℕ → List PlacementItem → List ℕ → ℕ
used_by end [] starts = end
used_by end (f ∷ fs) [] = end
used_by end (f ∷ fs) (s ∷ ss) = used_by (s + f.size) fs ss
