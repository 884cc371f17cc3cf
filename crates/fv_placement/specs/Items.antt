-- The conditions on a file that is to be placed (PI specification, volume 3, section 3.2.3.1).
use Rattle.std.specs.Prelude.{◌≡◌, ℕ, ◌%◌, ◌≤◌}
use Rattle.fv_base.specs.Words.{IsAlignment}
use Rattle.fv_placement.specs.declared.first_placement.PlacementItem.{PlacementItem}

-- f is a file that fits in `total` bytes: the length of its header is a multiple of 8, the size is at least that length
-- and at most `total`, and the alignment is a power of two up to 2 ^ 24
pub record IsLawfulItem (total : ℕ) (f : PlacementItem) : Type 0 where
  pub header : f.header % 8 ≡ 0
  pub holds : f.header ≤ f.size
  pub within : f.size ≤ total
  pub alignment : IsAlignment f.alignment
