-- If two flash images have one renewed image, the same offsets are found in both. The steps:
-- 1. From an offset on, a renewed image differs from the image only in the volumes that begin there (`Renews`), and not
--    before the first of them or in its first 50 bytes (`kept_before`).
-- 2. So a volume of the one image that begins before the next volume of the other is a volume of the other too, unless
--    the next volume of the other begins in the header or in the pad after it. There it cannot begin (`never`).
-- 3. So the places of both images are the same (`same_places`).
use Rattle.std.proofs.Common.{◌≡◌, ◌<◌, ◌≤◌, ◌+◌, ◌-◌, ◌%◌, ℕ, [], ◌∷◌, List, length, take, drop, get_or, refl, sym, ap, ◌∙◌, subst, arith}
use Rattle.std.proofs.Common.{inl, inr, length-drop, length-take, drop-drop}
use Rattle.fv_base.proofs.Laws.{AllByRecursion, IsBytes, bytes_drop, cases_lt, ext_get_or, field, common_steps, field-take, first_or_behind, get_or-drop}
use Rattle.fv_base.proofs.Laws.{get_or-take, le, length-take-le}
use Rattle.fv_flash.specs.Words.{Found, IsCovered, VolumeAt}
use Rattle.fv_flash.specs.inner.FoundWalks.{FoundFrom}
use Rattle.fv_flash.proofs.Laws.{at_least, found_walk, one_length}
use Rattle.fv_head.specs.Words.{header_len_of, system_guid}
use Rattle.fv_head.proofs.Laws.{front_lies}
use Rattle.fv_tree.specs.Words.{Meaning, Volume, head_of}
use Rattle.fv_canon.specs.Words.{NormalisesTo, IsNormalisedAt, NormalisesEach, MeanSameAll, MeanSameAllIffSameRenewedImage}
use Rattle.fv_canon.proofs.FlashImageLaws.{field_at}
use Rattle.fv_canon.proofs.HeadlineLaws.{image_keeps_length_and_meaning}
use Rattle.fv_canon.proofs.CanonicalHeaderLaws.{CanonicalFront, begins_again, front_kept, front_shown, no_header, reach_of, reads_less}
use Rattle.fv_canon.proofs.SameRenewedLaws.{HasOwnImageAt, image_at, one_image_length, same_back, same_forth}

-- ---- 1. the bytes that a renewed image keeps

-- from an offset on, these are the places of the volumes of a, r has their canonical images, and every byte outside them
-- is the same in r as in a
pub record Renews (from : ℕ) (a ps r : List ℕ) : Type 0 where
  pub walk : FoundFrom from a ps
  pub images : AllByRecursion (IsNormalisedAt a r) ps
  pub others : (k : ℕ) → from ≤ k → k < length a → (IsCovered a ps k → ⊥) → get_or r k 0 ≡ get_or a k 0

-- no offset before a walk lies in the volumes of the walk
before_walk : (from : ℕ) (b os : List ℕ) (k : ℕ) → FoundFrom from b os → k < from → IsCovered b os k → ⊥
before_walk from b [] k walk less (p, i, (j, l, e), w, low, high) = omega (arith, l)
before_walk from b (o ∷ os) k (n, (l, e, none, v), rest) less (p, i, has, w, low, high) = elim (first_or_behind o os p has) [
  | inl is ↦ omega (arith, is, l, less, low)
  | inr more ↦ before_walk (o + n) b os k rest (omega (arith, l, less)) (p, i, more, w, low, high)
]

-- the same is true from the end of the first volume on
renews_rest : (from : ℕ) (a : List ℕ) (p : ℕ) (ps r : List ℕ) → (s : Renews from a (p ∷ ps) r) → Renews (p + s.walk.0) a ps r
renews_rest from a p ps r s = record {
  walk = s.walk.2;
  images = s.images.1;
  others = λ k low less none. s.others k (omega (arith, low, s.walk.1.0)) less (past k low none);
} where
  past : (k : ℕ) → p + s.walk.0 ≤ k → (IsCovered a ps k → ⊥) → IsCovered a (p ∷ ps) k → ⊥
  past k low none (o, i, has, w, least, high) = elim (first_or_behind p ps o has) [
    | inl is ↦ omega (arith, low, is, high, one_length a p i s.walk.0 (subst (λ (j : ℕ). VolumeAt a j i) (sym is) w) s.walk.1.3)
    | inr more ↦ none (o, i, more, w, least, high)
  ]

-- the first 50 bytes of a volume are the first 50 bytes of its canonical image
kept_front : (a r : List ℕ) (p n k : ℕ) → VolumeAt a p n → NormalisesTo (field p n a) (field p n r) → p ≤ k → k < p + 50
    → get_or r k 0 ≡ get_or a k 0
kept_front a r p n k v to low high =
    let (m, of_a, of_r) = (image_keeps_length_and_meaning (field p n a) (field p n r) to).1 in
    let least = at_least a p n v in
    let at : (b : List ℕ) → get_or (take 50 (field p n b)) (k - p) 0 ≡ get_or b k 0 = λ b.
    get_or-take 50 (field p n b) (k - p) 0 (omega (arith, low, high)) ∙ field_at b p n k low (omega (arith, high, least)) in
    sym (at r) ∙ ap (λ (xs : List ℕ). get_or xs (k - p) 0) (front_kept m (field p n r) (field p n a) of_r of_a) ∙ at a

-- before the first volume, and in its first 50 bytes, the bytes are the same
kept_before : (from : ℕ) (b : List ℕ) (q : ℕ) (qs r : List ℕ) → Renews from b (q ∷ qs) r → (k : ℕ) → from ≤ k → k < length b → k < q + 50
    → get_or r k 0 ≡ get_or b k 0
kept_before from b q qs r s k low less near = elim (cases_lt k q) [
  | inl before ↦ s.others k low less (none before)
  | inr at ↦ let (n, v, to) = s.images.0 in kept_front b r q n k v to at near
] where
  none : k < q → IsCovered b (q ∷ qs) k → ⊥
  none before (o, i, has, w, least, high) = elim (first_or_behind q qs o has) [
    | inl is ↦ omega (arith, is, least, before)
    | inr more ↦ before_walk (q + s.walk.0) b qs k s.walk.2 (omega (arith, before)) (o, i, more, w, least, high)
  ]

-- if there is no volume, all bytes are the same
kept_all : (from : ℕ) (b r : List ℕ) → Renews from b [] r → (k : ℕ) → from ≤ k → k < length b → get_or r k 0 ≡ get_or b k 0
kept_all from b r s k low less = s.others k low less (λ (p, i, (j, l, e), w, least, high). omega (arith, l))

-- ---- 2. a volume before the next volume

-- bytes that are the same byte by byte are the same fields
same_part : (b r : List ℕ) (p n : ℕ) → length r ≡ length b
    → ((k : ℕ) → p ≤ k → k < length b → k < p + n → get_or r k 0 ≡ get_or b k 0) → take n (drop p b) ≡ take n (drop p r)
same_part b r p n long same =
    ext_get_or 0 (take n (drop p b)) (take n (drop p r)) (grind (arith, common_steps, length-take, length-drop)) each
  where
    each : (k : ℕ) → k < length (take n (drop p b)) → get_or (take n (drop p b)) k 0 ≡ get_or (take n (drop p r)) k 0
    each k less =
        let inside : k < n = omega (arith, less, length-take n (drop p b)) in
        let within : p + k < length b = omega (arith, less, length-take n (drop p b), length-drop p b) in
        let at : (l : List ℕ) → get_or (take n (drop p l)) k 0 ≡ get_or l (p + k) 0 = λ l.
        get_or-take n (drop p l) k 0 inside ∙ get_or-drop p l k 0 in
        at b ∙ sym (same (p + k) (omega arith) within (omega (arith, inside))) ∙ sym (at r)

-- the canonical image that begins at an offset begins with its header
front_at : (r : List ℕ) (p n : ℕ) (m : Meaning) → HasOwnImageAt r p n m → CanonicalFront (head_of m) (drop p r)
front_at r p n (Volume h files) is =
    let (stored, starts, are, placed, shows) = is.image in
    let lies = front_lies (drop p r) h is.extent is.begins in
    let long : length (field p n r) ≡ n = length-take-le n (drop p r) (omega (arith, is.within, length-drop p r)) in
    let shown : CanonicalFront h (field p n r) = front_shown h _ stored starts (field p n r) (_, is.begins.head) shows in
    record {
      offset = ap le (sym (field-take 52 2 n (drop p r) (omega (arith, lies.least, lies.within, is.length_is)))) ∙ shown.offset;
      pad = λ x some.
          let pad = shown.pad x some in
          let inside : header_len_of h + 16 ≤ n = omega (arith, pad.0, long) in
          (omega (arith, inside, is.within, length-drop p r), sym (field-take (header_len_of h) 16 n (drop p r) inside) ∙ pad.1);
    }

-- the offset p is before the first of the places
abbrev IsBefore : ℕ → List ℕ → Type 0
IsBefore p [] = Unit {0}
IsBefore p (q ∷ qs) = p < q

-- the volume whose canonical image begins at p begins at p in b too, if the bytes that the checks of its header read
-- are the same
again : (b r : List ℕ) (p n : ℕ) (m : Meaning) → IsBytes b → length r ≡ length b → (is : HasOwnImageAt r p n m)
    → ((k : ℕ) → p ≤ k → k < length b → k < p + reach_of is.extent.header_len (head_of m).ext → get_or r k 0 ≡ get_or b k 0)
    → (i : ℕ) × VolumeAt b p i
again b r p n m small long is same =
    let reach : ℕ = reach_of is.extent.header_len (head_of m).ext in
    let less = reads_less (head_of m) is.extent (drop p r) (head_of m).ext is.begins (front_at r p n m is) refl in
    let (x, k, front) = begins_again (drop p b) (drop p r) (head_of m) is.extent reach (bytes_drop p b small) is.begins
    (omega (arith, length-drop p b, length-drop p r, long)) (same_part b r p reach long same) less.0 less.1 in
    (x.length, (k, x, front, refl {a = x.length}))

-- a canonical image does not begin before the next volume of b
never : (from : ℕ) (b qs r : List ℕ) (p n : ℕ) (m : Meaning) → IsBytes b → length r ≡ length b → Renews from b qs r → HasOwnImageAt r p n m
    → from ≤ p → p % 8 ≡ 0 → IsBefore p qs → ⊥
never from b [] r p n m small long s is low multiple before =
    let (i, v) = again b r p n m small long is (λ k l less near. kept_all from b r s k (omega (arith, low, l)) less) in
    s.walk p i low multiple v
never from b (q ∷ qs) r p n m small long s is low multiple before =
    elim (cases_lt (q + 50) (p + reach_of is.extent.header_len (head_of m).ext)) [
      | inr far ↦
          let (i, v) = again b r p n m small long is
          (λ k l less near. kept_before from b q qs r s k (omega (arith, low, l)) less (omega (arith, near, far))) in
          s.walk.1.2 p i low before multiple v
      | inl near ↦
          let (j, v, to) = s.images.0 in
          let there = image_at b r q j long v to in
          let front = there.begins in
          let guid : field 16 16 (drop q r) ≡ system_guid (head_of to.0).file_system =
          sym (field-take 16 16 there.extent.header_len (drop q r)
          (omega (arith, (front_lies (drop q r) (head_of to.0) there.extent front).least))) ∙ front.head.file_system in
          let moved : field ((q - p) + 16) 16 (drop p r) ≡ field 16 16 (drop q r) =
          ap (take 16) (drop-drop ((q - p) + 16) p r ∙ ap (λ (k : ℕ). drop k r) (omega (arith, before)) ∙ sym (drop-drop 16 q r)) in
          no_header (head_of m) is.extent (drop p r) (head_of m).ext (head_of to.0).file_system (q - p) is.begins (front_at r p n m is) refl
          (omega (arith, multiple, s.walk.1.1, before)) (omega (arith, multiple, s.walk.1.1, before)) (omega (arith, near, before)) (moved ∙ guid)
    ]

-- ---- 3. the places

-- two images that have one renewed image have volumes at the same places
walks_same : (from : ℕ) (a b r ps qs : List ℕ) → IsBytes a → IsBytes b → length r ≡ length a → length r ≡ length b → Renews from a ps r
    → Renews from b qs r → ps ≡ qs
walks_same from a b r [] [] small small' long long' s t = refl
walks_same from a b r (p ∷ ps) [] small small' long long' s t =
    let (n, v, to) = s.images.0 in
    absurd (never from b [] r p n to.0 small' long' t (image_at a r p n long v to) s.walk.1.0 s.walk.1.1 tt)
walks_same from a b r [] (q ∷ qs) small small' long long' s t =
    let (n, v, to) = t.images.0 in
    absurd (never from a [] r q n to.0 small long s (image_at b r q n long' v to) t.walk.1.0 t.walk.1.1 tt)
walks_same from a b r (p ∷ ps) (q ∷ qs) small small' long long' s t =
    let (n, v, to) = s.images.0 in
    let (i, w, to') = t.images.0 in
    elim (cases_lt p q) [
      | inl less ↦ absurd (never from b (q ∷ qs) r p n to.0 small' long' t (image_at a r p n long v to) s.walk.1.0 s.walk.1.1 less)
      | inr least ↦ elim (cases_lt q p) [
        | inl less ↦ absurd (never from a (p ∷ ps) r q i to'.0 small long s (image_at b r q i long' w to') t.walk.1.0 t.walk.1.1 less)
        | inr most ↦
            let same : q ≡ p = omega (arith, least, most) in
            let t' : Renews from b (p ∷ qs) r = subst (λ (k : ℕ). Renews from b (k ∷ qs) r) same t in
            let (i', w', to'') = t'.images.0 in
            let length_same : i' ≡ n = one_image_length a b r p n i' long long' v w' to to'' in
            let next : p + t'.walk.0 ≡ p + s.walk.0 =
            omega (arith, length_same, one_length a p n s.walk.0 v s.walk.1.3, one_length b p i' t'.walk.0 w' t'.walk.1.3) in
            ap (λ (xs : List ℕ). p ∷ xs) (walks_same (p + s.walk.0) a b r ps qs small small' long long' (renews_rest from a p ps r s)
            (subst (λ (k : ℕ). Renews k b qs r) next (renews_rest from b p qs r t')))
            ∙ ap (λ (k : ℕ). k ∷ qs) (sym same)
      ]
    ]

pub same_places : (a b r ps qs : List ℕ) → IsBytes a → IsBytes b → Found a ps → Found b qs → NormalisesEach a ps r → NormalisesEach b qs r
    → ps ≡ qs
same_places a b r ps qs small small' found found' first second =
    walks_same 0 a b r ps qs small small' first.length_is second.length_is (begins a ps found first) (begins b qs found' second)
  where
    begins : (c os : List ℕ) → Found c os → NormalisesEach c os r → Renews 0 c os r
    begins c os found each =
        record { walk = found_walk c os found; images = each.volumes; others = λ k low less none. each.others k less none }

-- ---- the law

pub same_renewed_image : MeanSameAllIffSameRenewedImage
same_renewed_image a b renewed other small small' first second = (same_forth a b renewed other first second, back) where
  back : renewed ≡ other → MeanSameAll a b
  back is =
      let (short, ps, found, each) = first in
      let (short', qs, found', each') = second in
      let onto = subst (NormalisesEach b qs) (sym is) each' in
      let same : qs ≡ ps = sym (same_places a b renewed ps qs small small' found found' each onto) in
      (ps, found, subst (Found b) same found', same_back a b renewed ps each (subst (λ (xs : List ℕ). NormalisesEach b xs renewed) same onto))
