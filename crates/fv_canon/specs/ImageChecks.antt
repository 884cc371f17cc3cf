-- The result of checking each volume of a flash image: whether it is its own canonical image, or with which fault it is
-- rejected.
use Rattle.std.specs.Prelude.{◌≡◌, ◌↔◌, ◌<◌, ◌≤◌, ℕ, List, length, map}
use Rattle.std.specs.List.{AllByRecursion}
use Rattle.fv_base.specs.Words.{outer_fault, volume_limit, field}
use Rattle.fv_base.specs.declared.fault.Fault.{Fault}
use Rattle.fv_base.specs.declared.fault.FaultKind.TheVariants as kinds
use Rattle.fv_tree.specs.Words.{moved_fault, Accepted, Meaning, NotRead}
use Rattle.fv_flash.specs.Words.{Found, VolumeAt}
use Rattle.fv_canon.specs.FlashImages.{NormalisesAll}
use Rattle.fv_canon.specs.Headline.{NormalisesTo}
use Rattle.fv_canon.specs.Image.{IsImage}
use Rattle.fv_canon.specs.declared.image_check.VolumeCheck.{VolumeCheck}
use Rattle.fv_canon.specs.declared.image_check.VolumeOutcome.{VolumeOutcome}
use Rattle.fv_canon.specs.declared.image_check.VolumeOutcome.TheVariants.{Canonical, NotCanonical, Rejected}

-- the bytes are a volume, but are not the canonical image of its meaning; the meaning may have no canonical image
abbrev pub IsOtherThanImage : List ℕ → Type 0
IsOtherThanImage bytes = (m : Meaning) × Accepted bytes m × (IsImage m bytes → ⊥)

-- the outcome describes the bytes, which begin at this offset of a flash image. Canonical: they are a volume and its
-- own canonical image. NotCanonical: they are a volume, but not its canonical image. Rejected: they are not accepted as
-- a volume, and the fault is their first fault, with its offset counted from the first byte of the flash image
abbrev pub HasOutcome : ℕ → List ℕ → VolumeOutcome → Type 0
HasOutcome at bytes Canonical = NormalisesTo bytes bytes
HasOutcome at bytes NotCanonical = IsOtherThanImage bytes
HasOutcome at bytes (Rejected fault) =
    (own : Fault) × NotRead bytes own × (fault ≡ moved_fault at own.place.depth own)

-- a volume of b begins at `c.offset` and has `c.length` bytes, and `c.outcome` is the outcome of these bytes
abbrev pub IsChecked : List ℕ → VolumeCheck → Type 0
IsChecked b c = VolumeAt b c.offset c.length × HasOutcome c.offset (field c.offset c.length b) c.outcome

-- there is one check for each of the volumes that begin at these offsets of b, in the order of the offsets
abbrev pub AreChecked : List ℕ → List ℕ → List VolumeCheck → Type 0
AreChecked b offsets checks = (map (λ c. c.offset) checks ≡ offsets) × AllByRecursion (IsChecked b) checks

-- b is within the limit, and there is one check for each volume that is found in it, in the order of the volumes
abbrev pub ChecksImage : List ℕ → List VolumeCheck → Type 0
ChecksImage b checks = (length b ≤ volume_limit) × (offsets : List ℕ) × Found b offsets × AreChecked b offsets checks

-- b is longer than the limit, and the fault is Length at the limit
abbrev pub IsAboveLimit : List ℕ → Fault → Type 0
IsAboveLimit b fault = (volume_limit < length b) × (fault ≡ outer_fault kinds.Length volume_limit)

-- each of the volumes that were checked is its own canonical image
abbrev pub AreCanonical : List VolumeCheck → Type 0
AreCanonical checks = AllByRecursion (λ c. c.outcome ≡ Canonical) checks

-- the volumes of a flash image are all canonical exactly if replacing each by its canonical image leaves the flash
-- image as it is
abbrev pub CanonicalImagesStay : Type 0
CanonicalImagesStay =
    (b : List ℕ) (checks : List VolumeCheck) → ChecksImage b checks → AreCanonical checks ↔ NormalisesAll b b
