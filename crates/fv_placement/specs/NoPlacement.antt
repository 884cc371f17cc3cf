-- Why the files of a volume cannot be placed (PI specification, volume 3, section 3.2.1.3 for the volume top file, and
-- section 3.2.3.1 for the alignment of data).
use Rattle.std.specs.Prelude.{◌≢◌, ℕ, ◌+◌, ◌-◌, ◌%◌, ◌⊎◌, List, [], ◌∷◌, IsTrue}
use Rattle.fv_placement.specs.Starts.{Placement}
use Rattle.fv_placement.specs.declared.first_placement.PlacementItem.{PlacementItem}

-- the volume top file f cannot begin at its only possible start: the file's data are not aligned there, or the start is
-- not a multiple of 8. With this start the file ends at the volume's end. (The start is 0 if the file is longer than
-- the volume.)
abbrev pub IsMisaligned : ℕ → PlacementItem → Type 0
IsMisaligned total f = ((total - f.size + f.header) % f.alignment ≢ 0) ⊎ ((total - f.size) % 8 ≢ 0)

-- there is a volume top file that cannot begin at its only possible start: the file's data are not aligned there, or
-- the start is not a multiple of 8
abbrev pub TopMisaligned : ℕ → List PlacementItem → Type 0
TopMisaligned total [] = ⊥
TopMisaligned total (f ∷ fs) = (IsTrue f.top × IsMisaligned total f) ⊎ TopMisaligned total fs

-- the files cannot be placed in their order at all, although a volume top file, if there is one, is aligned at its only
-- possible start (`TopMisaligned` does not hold)
pub record HasNoRoom (total first : ℕ) (fs : List PlacementItem) : Type 0 where
  pub top_is_aligned : TopMisaligned total fs → ⊥
  pub none : (starts : List ℕ) → Placement total first fs starts → ⊥
