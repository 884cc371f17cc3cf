-- The volumes in some bytes (PI specification, volume 3, section 3.2.1.1).
use Rattle.std.specs.Prelude.{◌≡◌, ℕ, ◌+◌, ◌%◌, ◌≤◌, ◌<◌, List, [], ◌∷◌, drop, map}
use Rattle.std.specs.List.{AllByRecursion, Contains}
use Rattle.fv_head.specs.Words.{HeadFields, BeginsVolume}
use Rattle.fv_head.specs.declared.extent.Extent.{Extent}
use Rattle.fv_flash.specs.declared.scanner.FoundVolume.{FoundVolume}

-- a volume of n bytes begins at the offset k of b: its header is right, and its body is not checked
abbrev pub VolumeAt : List ℕ → ℕ → ℕ → Type 0
VolumeAt b k n = (h : HeadFields) × (e : Extent) × BeginsVolume h e (drop k b) × (n ≡ e.length)

-- the offset o is a multiple of 8 at which a volume begins in b
abbrev pub IsPlace : List ℕ → ℕ → Type 0
IsPlace b o = (o % 8 ≡ 0) × ((n : ℕ) × VolumeAt b o n)

-- p is greater than o, and at or after the end of every volume that begins at the offset o
abbrev pub IsAfter : List ℕ → ℕ → ℕ → Type 0
IsAfter b o p = (o < p) × ((n : ℕ) → VolumeAt b o n → o + n ≤ p)

-- each offset is at or after the end of every volume that begins at an earlier offset of the list
abbrev pub DoNotOverlap : List ℕ → List ℕ → Type 0
DoNotOverlap b [] = Unit {0}
DoNotOverlap b (o ∷ os) = AllByRecursion (IsAfter b o) os × DoNotOverlap b os

-- the offset k lies in a volume that begins at one of these offsets, at its first byte or further on
abbrev pub IsCovered : List ℕ → List ℕ → ℕ → Type 0
IsCovered b os k = (o : ℕ) × (n : ℕ) × Contains os o × VolumeAt b o n × (o ≤ k) × (k < o + n)

-- each of these offsets is a multiple of 8 at which a volume begins, the offsets ascend, the volumes do not overlap, and
-- every multiple of 8 at which a volume begins in b lies in one of these volumes
pub record Found (b os : List ℕ) : Type 0 where
  pub places : AllByRecursion (IsPlace b) os
  pub do_not_overlap : DoNotOverlap b os
  pub all : (k n : ℕ) → k % 8 ≡ 0 → VolumeAt b k n → IsCovered b os k

-- the offsets of these volumes
abbrev pub offsets_of : List FoundVolume → List ℕ
offsets_of volumes = map (λ v. v.offset) volumes

-- these are all volumes that are found in b, in the order of their offsets, each with its length
abbrev pub AreFound : List ℕ → List FoundVolume → Type 0
AreFound b volumes = Found b (offsets_of volumes) × AllByRecursion (λ v. VolumeAt b v.offset v.length) volumes
