-- A flash image with each volume replaced by its canonical image; a flash image that is rejected; and the volumes of a
-- flash image, read and laid out.
use Rattle.std.specs.Prelude.{◌≡◌, ◌⊎◌, ◌<◌, ◌≤◌, ℕ, List, ◌∷◌, ◌++◌, length, get_or, map}
use Rattle.std.specs.List.{AllByRecursion}
use Rattle.fv_base.specs.Words.{outer_fault, volume_limit, field}
use Rattle.fv_base.specs.declared.fault.Fault.{Fault}
use Rattle.fv_base.specs.declared.fault.FaultKind.TheVariants as kinds
use Rattle.fv_tree.specs.Words.{moved_fault, Accepted}
use Rattle.fv_flash.specs.Words.{Found, IsCovered, VolumeAt}
use Rattle.fv_canon.specs.Headline.{NormalisesTo}
use Rattle.fv_canon.specs.Image.{IsImage}
use Rattle.fv_canon.specs.InputRejections.{Rejects}
use Rattle.fv_canon.specs.declared.flash_image.LocatedVolume.{LocatedVolume}

-- a volume begins at the offset p of b, and o contains its canonical image there
abbrev pub IsNormalisedAt : List ℕ → List ℕ → ℕ → Type 0
IsNormalisedAt b o p = (n : ℕ) × VolumeAt b p n × NormalisesTo (field p n b) (field p n o)

-- o is as long as b. At each of these offsets, o contains the canonical image of the volume that begins there in b.
-- Every byte outside these volumes is the same in o as in b
pub record NormalisesEach (b places o : List ℕ) : Type 0 where
  pub length_is : length o ≡ length b
  pub volumes : AllByRecursion (IsNormalisedAt b o) places
  pub others : (k : ℕ) → k < length b → (IsCovered b places k → ⊥) → get_or o k 0 ≡ get_or b k 0

-- b is within the limit, and o is b with each volume that is found in it replaced by its canonical image
abbrev pub NormalisesAll : List ℕ → List ℕ → Type 0
NormalisesAll b o = (length b ≤ volume_limit) × (places : List ℕ) × Found b places × NormalisesEach b places o

-- the volume that begins at the offset p of b has a canonical image
abbrev pub HasImageAt : List ℕ → ℕ → Type 0
HasImageAt b p = (n : ℕ) × (image : List ℕ) × VolumeAt b p n × NormalisesTo (field p n b) image

-- the volume that begins at the offset p of b is rejected, and this is its fault, with the fault's offset counted from
-- the first byte of b
abbrev pub RejectedAt : List ℕ → ℕ → Fault → Type 0
RejectedAt b p fault =
    (n : ℕ) × VolumeAt b p n × (own : Fault) × Rejects (field p n b) own × (fault ≡ moved_fault p own.place.depth own)

-- the volume at one of these offsets is rejected with this fault, and all volumes at earlier offsets have canonical
-- images
pub record FirstRejected (b places : List ℕ) (fault : Fault) : Type 0 where
  pub before : List ℕ
  pub place : ℕ
  pub after : List ℕ
  pub split : places ≡ before ++ (place ∷ after)
  pub images : AllByRecursion (HasImageAt b) before
  pub rejected : RejectedAt b place fault

-- either b is longer than the limit, and the fault is Length at the limit; or b is within the limit, and the fault is
-- the fault of the first rejected volume in b
abbrev pub RejectsAll : List ℕ → Fault → Type 0
RejectsAll b fault =
    ((volume_limit < length b) × (fault ≡ outer_fault kinds.Length volume_limit))
    ⊎ ((length b ≤ volume_limit) × (places : List ℕ) × Found b places × FirstRejected b places fault)

-- a volume of b begins at the offset `v.start`, with the meaning `v.laid`, which has a canonical image
abbrev pub IsLaid : List ℕ → LocatedVolume → Type 0
IsLaid b v =
    (n : ℕ) × VolumeAt b v.start n × Accepted (field v.start n b) v.laid × ((image : List ℕ) × IsImage v.laid image)

-- the offsets at which the volumes begin
abbrev pub volume_starts : List LocatedVolume → List ℕ
volume_starts volumes = map (λ v. v.start) volumes

-- these are the volumes that begin at these offsets of b, in order, each with its meaning
abbrev pub AreLaid : List ℕ → List ℕ → List LocatedVolume → Type 0
AreLaid b offsets volumes = (volume_starts volumes ≡ offsets) × AllByRecursion (IsLaid b) volumes

-- b is within the limit, and these are all volumes that are found in it, in order, each with its meaning
abbrev pub IsLaidOut : List ℕ → List LocatedVolume → Type 0
IsLaidOut b volumes = (length b ≤ volume_limit) × (offsets : List ℕ) × Found b offsets × AreLaid b offsets volumes
