-- When two flash images have the same renewed image, in which each volume is replaced by its canonical image.
use Rattle.std.specs.Prelude.{◌≡◌, ◌↔◌, ◌<◌, ℕ, List, length, get_or}
use Rattle.std.specs.List.{AllByRecursion}
use Rattle.fv_base.specs.Words.{IsBytes, field}
use Rattle.fv_flash.specs.Words.{Found, IsCovered, VolumeAt}
use Rattle.fv_canon.specs.FlashImages.{NormalisesAll}
use Rattle.fv_canon.specs.Headline.{MeanSame}

-- at the offset p of a and of b, volumes of the same length begin, and they have the same meaning
abbrev pub MeanSameAt : List ℕ → List ℕ → ℕ → Type 0
MeanSameAt a b p = (n : ℕ) × VolumeAt a p n × VolumeAt b p n × MeanSame (field p n a) (field p n b)

-- a and b have the same length. At each of these offsets, volumes of the same length and with the same meaning begin in
-- a and in b. Every byte outside these volumes is the same in a as in b
pub record MeanSameEach (a b places : List ℕ) : Type 0 where
  pub length_is : length a ≡ length b
  pub volumes : AllByRecursion (MeanSameAt a b) places
  pub others : (k : ℕ) → k < length a → (IsCovered a places k → ⊥) → get_or a k 0 ≡ get_or b k 0

-- the volumes that are found in a and in b begin at the same offsets, and have the same lengths and the same meanings.
-- Every byte outside these volumes is the same in a as in b
abbrev pub MeanSameAll : List ℕ → List ℕ → Type 0
MeanSameAll a b = (places : List ℕ) × Found a places × Found b places × MeanSameEach a b places

-- two flash images have the same renewed image exactly if volumes are found in them at the same offsets, with the same
-- lengths and meanings, and the bytes outside these volumes are the same
abbrev pub MeanSameAllIffSameRenewedImage : Type 0
MeanSameAllIffSameRenewedImage =
    (a b renewed other : List ℕ) → IsBytes a → IsBytes b → NormalisesAll a renewed → NormalisesAll b other
    → (MeanSameAll a b ↔ (renewed ≡ other))
