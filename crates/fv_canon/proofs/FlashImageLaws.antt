-- The renewed image of a flash image, in which each volume is replaced by its canonical image. The steps:
-- 1. `RenewsFrom` states, place by place, which bytes the walk writes. These bytes contain the canonical image of each
--    volume, and every other byte is unchanged (`renewed_is`).
-- 2. The bytes up to a volume, the volume's canonical image and renewed bytes after it are renewed bytes
--    (`renews_more`).
-- 3. Two renewed images have the same bytes in each volume (`same_inside`) and outside the volumes. So the renewed
--    image is unique (`normalised_one`).
-- 4. A volume that has a canonical image is not rejected. So if all volumes have one, the only error is OutOfMemory
--    (`only_want`).
use Rattle.std.proofs.Common.{◌≡◌, ◌⊎◌, ◌≤◌, ◌<◌, ◌+◌, ◌-◌, ◌^◌, ℕ, [], ◌∷◌, ◌++◌, List, length, drop, get_or}
use Rattle.fv_base.proofs.Laws.{common_steps, AllByRecursion, All-contains, All-from_recursion, cases_lt, drop_at, take-append_seam, out_of_memory}
use Rattle.fv_base.proofs.Laws.{field, in_middle, one_behind, first_only, ext_get_or, get_or-take, refl, sym, ◌∙◌, arith, inl, inr, append_assoc}
use Rattle.fv_base.specs.declared.fault.Fault.{Fault}
use Rattle.fv_flash.specs.Words.{Found, IsCovered, VolumeAt}
use Rattle.fv_flash.proofs.Laws.{at_within, one_found, one_length}
use Rattle.fv_canon.specs.Words.{NormalisesTo, Rejects, FirstRejected, IsNormalisedAt, NormalisesAll, NormalisesEach}
use Rattle.fv_canon.proofs.RejectedInputLaws.{refused_within}
use Rattle.fv_canon.proofs.ImageLaws.{never_both}
use Rattle.fv_canon.proofs.HeadlineLaws.{same_meaning_iff_same_image}
use Rattle.fv_canon.proofs.PositionLaws.{rest_at, unless_apart}

-- ---- bytes

-- a byte at or after the offset `from` is a byte of a field that begins there
pub field_at : (b : List ℕ) (from n k : ℕ) → from ≤ k → k < from + n → get_or (field from n b) (k - from) 0 ≡ get_or b k 0
field_at b from n k low high = get_or-take n (drop from b) (k - from) 0 (omega (arith, low, high)) ∙ rest_at b from k low

-- the middle one of three joined lists is a field
field_joined : (xs ys zs : List ℕ) (at n : ℕ) → length xs ≡ at → length ys ≡ n → field at n (xs ++ (ys ++ zs)) ≡ ys
field_joined xs ys zs at n long size = grind (arith, common_steps, drop_at, take-append_seam)

-- ---- one volume

-- the offset of a volume's fault in the flash image is less than 2 ^ 64
pub place_fits : (b x : List ℕ) (p n : ℕ) (f : Fault) → VolumeAt b p n → length x ≡ n → length b < 2 ^ 63 → (f ≡ out_of_memory) ⊎ Rejects x f
    → p + f.place.offset < 2 ^ 64
place_fits b x p n f v long small (inl want) = grind (arith, common_steps, at_within) steps 400000
place_fits b x p n f v long small (inr rejected) = omega (arith, refused_within x f rejected, long, at_within b p n v, small)

-- ---- 1. the walk

-- from an offset on, o is b, except that each volume that begins at one of the places is replaced by its canonical
-- image
abbrev pub RenewsFrom : ℕ → List ℕ → List ℕ → List ℕ → Type 0
RenewsFrom from b [] o = drop from o ≡ drop from b
RenewsFrom from b (p ∷ ps) o =
    (n : ℕ) × (from ≤ p) × VolumeAt b p n × (field from (p - from) o ≡ field from (p - from) b)
    × NormalisesTo (field p n b) (field p n o) × RenewsFrom (p + n) b ps o

-- o has the canonical image of the volume at each of the places
renewed_each : (from : ℕ) (b ps o : List ℕ) → RenewsFrom from b ps o → AllByRecursion (IsNormalisedAt b o) ps
renewed_each from b [] o same = tt
renewed_each from b (p ∷ ps) o (n, low, v, same, to, more) = ((n, v, to), renewed_each (p + n) b ps o more)

-- the bytes outside the volumes are unchanged
renewed_others : (from : ℕ) (b ps o : List ℕ) → RenewsFrom from b ps o → (k : ℕ) → from ≤ k → (IsCovered b ps k → ⊥)
    → get_or o k 0 ≡ get_or b k 0
renewed_others from b [] o same k low none = cc (rest_at o from k low, rest_at b from k low)
renewed_others from b (p ∷ ps) o (n, least, v, same, to, more) k low none = elim (cases_lt k p) [
  | inl before ↦ let at = λ (l : List ℕ). field_at l from (p - from) k low (omega (arith, before, least)) in cc (at o, at b)
  | inr at ↦ elim (cases_lt k (p + n)) [
    | inl inside ↦ absurd (none (p, n, (0, omega arith, refl), v, at, inside))
    | inr past ↦ renewed_others (p + n) b ps o more k past (λ c. none (c.0, c.1, one_behind p ps c.0 c.2, c.3, c.4, c.5))
  ]
]

-- so each volume is replaced by its canonical image, and every other byte is unchanged
pub renewed_is : (b places o : List ℕ) → RenewsFrom 0 b places o → length o ≡ length b → NormalisesEach b places o
renewed_is b places o walk long = record {
  length_is = long;
  volumes = renewed_each 0 b places o walk;
  others = λ k inside none. renewed_others 0 b places o walk k (omega arith) none;
}

-- ---- 2. one step of the walk

-- the bytes up to a volume, the volume's canonical image and renewed bytes after it are renewed bytes
pub renews_more : (b ps bytes x image rest : List ℕ) (from p n : ℕ) → from ≤ p → VolumeAt b p n → x ≡ field from (p - from) b
    → length bytes ≡ from → length x ≡ p - from → length (bytes ++ x) ≡ p → length image ≡ n → NormalisesTo (field p n b) image
    → RenewsFrom (p + n) b ps (bytes ++ (x ++ (image ++ rest))) → RenewsFrom from b (p ∷ ps) (bytes ++ (x ++ (image ++ rest)))
renews_more b ps bytes x image rest from p n least v same long gap_long front_long image_long to more =
    let there : field p n (bytes ++ (x ++ (image ++ rest))) ≡ image =
    rw (← append_assoc bytes x (image ++ rest)) (field_joined (bytes ++ x) image rest p n front_long image_long) in
    (n, least, v, field_joined bytes x (image ++ rest) from (p - from) long gap_long ∙ same, rw there to, more)

-- ---- 3. the renewed image is unique

-- two images that have the canonical image of the volume at each of the places have the same bytes in these volumes
same_inside : (b o other places : List ℕ) (k : ℕ) → AllByRecursion (IsNormalisedAt b o) places → AllByRecursion (IsNormalisedAt b other) places
    → IsCovered b places k → get_or o k 0 ≡ get_or other k 0
same_inside b o other places k all all' (p, i, has, at, low, high) =
    let (n, v, to) = All-contains (IsNormalisedAt b o) places p (All-from_recursion (IsNormalisedAt b o) places all) has in
    let (m, w, to') = All-contains (IsNormalisedAt b other) places p (All-from_recursion (IsNormalisedAt b other) places all') has in
    let image = rw (one_length b p m n w v) at to' in
    let same = (same_meaning_iff_same_image (field p n b) (field p n b) (field p n o) (field p n other) to image).0 (to.0, to.1, to.1) in
    let below = rw (one_length b p i n at v) at high in cc (field_at o p n k low below, field_at other p n k low below)

-- two images in which the volumes at the same places are renewed are equal
renewed_one : (b places o other : List ℕ) → NormalisesEach b places o → NormalisesEach b places other → o ≡ other
renewed_one b places o other r s =
    ext_get_or 0 o other (r.length_is ∙ sym s.length_is) (λ k less. unless_apart (get_or o k 0) (get_or other k 0) (λ differ.
    let none = λ (covered : IsCovered b places k). differ (same_inside b o other places k r.volumes s.volumes covered) in
    let inside : k < length b = omega (arith, less, r.length_is) in r.others k inside none ∙ sym (s.others k inside none)))

-- an image has at most one renewed image
pub normalised_one : (b o other : List ℕ) → NormalisesAll b o → NormalisesAll b other → o ≡ other
normalised_one b o other (short, places, found, r) (short', places', found', s) = grind (arith, common_steps, one_found, renewed_one)

-- ---- 4. if all volumes have canonical images, none is rejected

-- if all volumes have canonical images, the only error is out of memory
pub only_want : (b places other : List ℕ) (f : Fault) → Found b places → (f ≡ out_of_memory) ⊎ FirstRejected b places f
    → NormalisesAll b other → f ≡ out_of_memory
only_want b places other f found why (short, places', found', s) = first_only why (λ stops.
    let (n, v, to) = in_middle (IsNormalisedAt b other) stops.before stops.place stops.after
    (rw (one_found b places' places found' found, stops.split) at s.volumes) in
    let (m, w, own, rejected, is) = stops.rejected in
    never_both (field stops.place m b) (field stops.place m other) own (rw (one_length b stops.place n m v w) at to) rejected)
