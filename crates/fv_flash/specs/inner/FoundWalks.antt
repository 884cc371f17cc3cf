-- The findings of a search for volumes that goes through some bytes from offset to offset.
use Rattle.std.specs.Prelude.{◌≡◌, ℕ, ◌+◌, ◌%◌, ◌≤◌, ◌<◌, List, [], ◌∷◌, length}
use Rattle.std.specs.List.{AllByRecursion}
use Rattle.fv_flash.specs.FoundVolumes.{VolumeAt, offsets_of}
use Rattle.fv_flash.specs.declared.scanner.FoundVolume.{FoundVolume}

-- no volume begins at a multiple of 8 that is at least `from` and below `to`
abbrev pub NoneBetween : List ℕ → ℕ → ℕ → Type 0
NoneBetween b from to = (k n : ℕ) → from ≤ k → k < to → k % 8 ≡ 0 → VolumeAt b k n → ⊥

-- no volume begins at a multiple of 8 that is at least `from`
abbrev pub NoneFrom : List ℕ → ℕ → Type 0
NoneFrom b from = (k n : ℕ) → from ≤ k → k % 8 ≡ 0 → VolumeAt b k n → ⊥

-- a search for volumes that began at `from` has reached `at`, a multiple of 8 within b, and no volume begins between
-- them
pub record IsReached (b : List ℕ) (from at : ℕ) : Type 0 where
  pub multiple : at % 8 ≡ 0
  pub within : at ≤ length b
  pub least : from ≤ at
  pub none : NoneBetween b from at

-- `at` is the first multiple of 8 that is at least `from` and at which a volume begins, and this volume has n bytes
abbrev pub IsNext : List ℕ → ℕ → ℕ → ℕ → Type 0
IsNext b from at n = (from ≤ at) × (at % 8 ≡ 0) × NoneBetween b from at × VolumeAt b at n

-- from the offset `from` on, the volumes of b begin at these offsets
abbrev pub FoundFrom : ℕ → List ℕ → List ℕ → Type 0
FoundFrom from b [] = NoneFrom b from
FoundFrom from b (o ∷ os) = (n : ℕ) × IsNext b from o n × FoundFrom (o + n) b os

-- from the offset `from` on, these are the volumes of b, each with its length
abbrev pub VolumesFrom : ℕ → List ℕ → List FoundVolume → Type 0
VolumesFrom from b vs = FoundFrom from b (offsets_of vs) × AllByRecursion (λ v. VolumeAt b v.offset v.length) vs
