-- Two flash images with volumes at the same places have the same renewed image exactly if the volumes mean the same and
-- the bytes outside them are the same. The steps:
-- 1. A canonical image at a place of a renewed image is a volume of its own length there (`image_at`,
--    `volume_there`).
-- 2. So if two images with volumes at the same places have one renewed image, their volumes have the same lengths and
--    the same meanings, and their other bytes are the same (`same_back`).
-- 3. If the volumes of two images mean the same, and their other bytes are the same, a renewed image of one is a renewed
--    image of the other (`same_renewed`).
use Rattle.std.proofs.Common.{◌≡◌, ◌≤◌, ◌+◌, ℕ, [], ◌∷◌, List, length, drop, refl, sym, ◌∙◌, subst, arith}
use Rattle.fv_base.proofs.Laws.{AllByRecursion, All-contains, All-from_recursion, field, length-drop}
use Rattle.fv_flash.specs.Words.{IsCovered, VolumeAt}
use Rattle.fv_flash.proofs.Laws.{at_within, one_found, one_length}
use Rattle.fv_head.specs.Words.{BeginsVolume}
use Rattle.fv_head.specs.declared.extent.Extent.{Extent}
use Rattle.fv_tree.specs.Words.{Meaning, Accepted, head_of}
use Rattle.fv_tree.proofs.Laws.{front_of}
use Rattle.fv_canon.specs.Words.{IsImage, NormalisesTo, IsNormalisedAt, NormalisesEach, NormalisesAll, MeanSameAt, MeanSameEach, MeanSameAll}
use Rattle.fv_canon.proofs.HeadlineLaws.{image_read, one_reading, same_meaning_iff_same_image}
use Rattle.fv_canon.proofs.FlashImageLaws.{normalised_one}

-- ---- 1. a canonical image in a renewed image

-- at the offset p of r, a volume of n bytes begins that has the meaning m, and its bytes are the canonical image of m
pub record HasOwnImageAt (r : List ℕ) (p n : ℕ) (m : Meaning) : Type 0 where
  pub extent : Extent
  pub begins : BeginsVolume (head_of m) extent (drop p r)
  pub length_is : extent.length ≡ n
  pub within : p + n ≤ length r
  pub image : IsImage m (field p n r)

pub image_at : (a r : List ℕ) (p n : ℕ) → length r ≡ length a → VolumeAt a p n → (to : NormalisesTo (field p n a) (field p n r))
    → HasOwnImageAt r p n to.0
image_at a r p n long v (m, d, is) =
    let inside = at_within a p n v in
    let k : Accepted (field p n r) m = image_read m (field p n a) (field p n r) d is in
    let front = front_of 8 n (drop p r) m (omega (arith, inside, long, length-drop p r)) k.1 in
    record {
      extent = k.1.extent;
      begins = front.0;
      length_is = front.1;
      within = omega (arith, inside, long);
      image = is;
    }

pub volume_there : (r : List ℕ) (p n : ℕ) (m : Meaning) → HasOwnImageAt r p n m → VolumeAt r p n
volume_there r p n m is = (head_of m, is.extent, is.begins, sym is.length_is)

-- canonical images at the same offset of one renewed image have the same length
pub one_image_length : (a b r : List ℕ) (p n i : ℕ) → length r ≡ length a → length r ≡ length b → VolumeAt a p n → VolumeAt b p i
    → NormalisesTo (field p n a) (field p n r) → NormalisesTo (field p i b) (field p i r) → i ≡ n
one_image_length a b r p n i long long' v w to to' =
    one_length r p i n (volume_there r p i to'.0 (image_at b r p i long' w to')) (volume_there r p n to.0 (image_at a r p n long v to))

-- ---- 2. from the renewed image to the images

same_each : (a b r ps : List ℕ) → length r ≡ length a → length r ≡ length b → AllByRecursion (IsNormalisedAt a r) ps
    → AllByRecursion (IsNormalisedAt b r) ps → AllByRecursion (MeanSameAt a b) ps
same_each a b r [] long long' all all' = tt
same_each a b r (p ∷ ps) long long' ((n, v, to), all) ((i, w, to'), all') =
    let same : i ≡ n = one_image_length a b r p n i long long' v w to to' in
    let w' : VolumeAt b p n = subst (λ (k : ℕ). VolumeAt b p k) same w in
    let image : NormalisesTo (field p n b) (field p n r) = subst (λ (k : ℕ). NormalisesTo (field p k b) (field p k r)) same to' in
    let mean = (same_meaning_iff_same_image (field p n a) (field p n b) (field p n r) (field p n r) to image).1 refl in
    ((n, v, w', mean), same_each a b r ps long long' all all')

-- if the volumes at the same places have the same lengths, they cover the same offsets
covered_first : (a b ps : List ℕ) (k : ℕ) → AllByRecursion (MeanSameAt a b) ps → IsCovered b ps k → IsCovered a ps k
covered_first a b ps k all (p, i, has, w, low, high) =
    let (n, v, w', mean) = All-contains (MeanSameAt a b) ps p (All-from_recursion (MeanSameAt a b) ps all) has in
    (p, n, has, v, low, omega (arith, one_length b p i n w w', high))

-- if two images have one renewed image, and volumes at the same places, they are the same except for bytes of volumes
-- that have no meaning
pub same_back : (a b r places : List ℕ) → NormalisesEach a places r → NormalisesEach b places r → MeanSameEach a b places
same_back a b r places first second =
    let long : length a ≡ length b = sym first.length_is ∙ second.length_is in
    let all = same_each a b r places first.length_is second.length_is first.volumes second.volumes in
    record {
      length_is = long;
      volumes = all;
      others = λ k less none.
          sym (first.others k less none) ∙ second.others k (omega (arith, less, long)) (λ c. none (covered_first a b places k all c));
    }

-- ---- 3. from the images to the renewed image

renewed_each : (a b r ps : List ℕ) → AllByRecursion (MeanSameAt a b) ps → AllByRecursion (IsNormalisedAt b r) ps
    → AllByRecursion (IsNormalisedAt a r) ps
renewed_each a b r [] all all' = tt
renewed_each a b r (p ∷ ps) ((n, v, w, (m, d, e)), all) ((i, w', to), all') =
    let (k, e', is) = subst (λ (j : ℕ). NormalisesTo (field p j b) (field p j r)) (one_length b p i n w' w) to in
    let image : NormalisesTo (field p n a) (field p n r) =
    (m, d, subst (λ (x : Meaning). IsImage x (field p n r)) (one_reading (field p n b) k m e' e) is) in
    ((n, v, image), renewed_each a b r ps all all')

same_renewed : (a b r places : List ℕ) → MeanSameEach a b places → NormalisesEach b places r → NormalisesEach a places r
same_renewed a b r places same second = record {
  length_is = second.length_is ∙ sym same.length_is;
  volumes = renewed_each a b r places same.volumes second.volumes;
  others = λ k less none.
      second.others k (omega (arith, less, same.length_is)) (λ c. none (covered_first a b places k same.volumes c)) ∙ sym (same.others k less none);
}

-- if two images are the same except for bytes of volumes that have no meaning, their renewed images are equal
pub same_forth : (a b renewed other : List ℕ) → NormalisesAll a renewed → NormalisesAll b other → MeanSameAll a b → renewed ≡ other
same_forth a b renewed other first (short, places', found', second) (places, found, found'', same) =
    let at : places' ≡ places = one_found b places' places found' found'' in
    let each = subst (λ (ps : List ℕ). NormalisesEach b ps other) at second in
    normalised_one a renewed other first (omega (arith, short, same.length_is), places, found, same_renewed a b other places same each)
