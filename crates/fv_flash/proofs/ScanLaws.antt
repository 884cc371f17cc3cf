-- A walk finds the volumes that begin in some bytes, and they have one list of places and lengths. The steps:
-- 1. A volume at a place has one length, and lies within the bytes (`one_length`, `at_within`).
-- 2. A search that goes from place to place passes no volume (`reached_first`, `reached_joined`, `reached_more`,
--    `none_unsigned`).
-- 3. A walk has one list of places (`one_walk`). It finds the volumes of the bytes (`walk_found`), and the places that
--    are found are the list of a walk (`found_walk`).
-- 4. So the volumes of some bytes begin at one list of places (`one_found`), and have one list of places with lengths
--    (`one_are`).
use Rattle.std.proofs.Common.{◌≡◌, ℕ, ◌+◌, ◌%◌, ◌<◌, ◌≤◌, [], ◌∷◌, ◌⊎◌, List, length, drop, take, refl, sym, ap, ◌∙◌, subst, drop-drop, arith, true}
use Rattle.fv_base.proofs.Laws.{false, inl, inr, length-drop, common_steps, AllByRecursion, Contains, bytes_eq, cases_lt, All-contains}
use Rattle.fv_base.proofs.Laws.{All-from_recursion, All-weaker, recursion_from_All, first_or_behind, one_behind}
use Rattle.fv_head.specs.Words.{HeadFields, BeginsVolume, signature_bytes, has_signature}
use Rattle.fv_head.specs.declared.extent.Extent.{Extent}
use Rattle.fv_head.proofs.Laws.{front_holds, one_front}
use Rattle.fv_flash.specs.Words.{VolumeAt, IsPlace, IsAfter, DoNotOverlap, IsCovered, Found, AreFound, offsets_of}
use Rattle.fv_flash.specs.declared.scanner.FoundVolume.{FoundVolume}
use Rattle.fv_flash.specs.inner.FoundWalks.{NoneBetween, NoneFrom, IsReached, FoundFrom}

-- ---- a volume

some_length : (b : List ℕ) (h : HeadFields) (e : Extent) → BeginsVolume h e b → (64 ≤ e.length) × (e.length % 8 ≡ 0)
some_length b h e f = grind (arith, common_steps)

-- a volume has at least 64 bytes, and a multiple of 8, and lies within the bytes
pub at_least : (b : List ℕ) (k n : ℕ) → VolumeAt b k n → 64 ≤ n
at_least b k n v = omega (arith, v.3, (some_length (drop k b) v.0 v.1 v.2).0)

pub at_multiple : (b : List ℕ) (k n : ℕ) → VolumeAt b k n → n % 8 ≡ 0
at_multiple b k n v = omega (arith, v.3, (some_length (drop k b) v.0 v.1 v.2).1)

pub at_within : (b : List ℕ) (k n : ℕ) → VolumeAt b k n → k + n ≤ length b
at_within b k n v = omega (arith, v.3, v.2.is_within, length-drop k b, at_least b k n v)

-- a volume at a place has one length
pub one_length : (b : List ℕ) (k n m : ℕ) → VolumeAt b k n → VolumeAt b k m → n ≡ m
one_length b k n m v w = v.3 ∙ ap (λ (e : Extent). e.length) (one_front (drop k b) v.0 w.0 v.1 w.1 v.2 w.2).1 ∙ sym w.3

-- ---- the walk

-- if no volume begins in a range of offsets, and none in the range after it, none begins in the two ranges together;
-- the second range ends at an offset (`between_joined`) or has no end (`from_joined`)
between_joined : (b : List ℕ) (from at to : ℕ) → NoneBetween b from at → NoneBetween b at to → NoneBetween b from to
between_joined b from at to f g = λ k n l u m v. go k n l u m v (cases_lt k at) where
  go : (k n : ℕ) → from ≤ k → k < to → k % 8 ≡ 0 → VolumeAt b k n → (k < at) ⊎ (at ≤ k) → ⊥
  go k n l u m v (inl p) = f k n l p m v
  go k n l u m v (inr p) = g k n p u m v

pub from_joined : (b : List ℕ) (from at : ℕ) → NoneBetween b from at → NoneFrom b at → NoneFrom b from
from_joined b from at f g = λ k n l m v. go k n l m v (cases_lt k at) where
  go : (k n : ℕ) → from ≤ k → k % 8 ≡ 0 → VolumeAt b k n → (k < at) ⊎ (at ≤ k) → ⊥
  go k n l m v (inl p) = f k n l p m v
  go k n l m v (inr p) = g k n p m v

-- a search has reached the place at which it begins; it goes on to the place that another search reaches from there,
-- and by 8 if no volume begins there
pub reached_first : (b : List ℕ) (from : ℕ) → from % 8 ≡ 0 → from ≤ length b → IsReached b from from
reached_first b from multiple within = grind (arith, common_steps)

pub reached_joined : (b : List ℕ) (from at to : ℕ) → IsReached b from at → IsReached b at to → IsReached b from to
reached_joined b from at to r s = record {
  multiple = s.multiple;
  within = s.within;
  least = omega (arith, r.least, s.least);
  none = between_joined b from at to r.none s.none;
}

pub reached_more : (b : List ℕ) (from at : ℕ) → IsReached b from at → at + 56 ≤ length b → ((n : ℕ) → VolumeAt b at n → ⊥)
    → IsReached b from (at + 8)
reached_more b from at r long none = reached_joined b from at (at + 8) r (record {
  multiple = omega (arith, r.multiple);
  within = omega (arith, long);
  least = omega arith;
  none = λ k n l u m v. none n (subst (λ j. VolumeAt b j n) (omega (arith, r.multiple, l, u, m)) v);
})

-- no volume begins if there are too few bytes for a header
pub none_past : (b : List ℕ) (at : ℕ) → length b < at + 56 → NoneFrom b at
none_past b at short = λ k n l m v. omega (arith, short, l, at_within b k n v, at_least b k n v)

signed : (b : List ℕ) (h : HeadFields) (e : Extent) → BeginsVolume h e b → has_signature b ≡ true
signed b h e f = (front_holds b h e f).1.0

-- no volume begins without a signature
pub none_unsigned : (b : List ℕ) (at : ℕ) → has_signature (drop at b) ≡ false → (n : ℕ) → VolumeAt b at n → ⊥
none_unsigned b at unsigned n v = let p : true ≡ false = sym (signed (drop at b) v.0 v.1 v.2) ∙ unsigned in cc

-- the test of the four bytes at offset 40 from a place on is the test for the signature
pub signature_at : (b : List ℕ) (at n : ℕ) → n ≡ 4 → bytes_eq (take n (drop (at + 40) b)) signature_bytes ≡ has_signature (drop at b)
signature_at b at n e =
    ap (λ k. bytes_eq (take k (drop (at + 40) b)) signature_bytes) e
    ∙ ap (λ l. bytes_eq (take 4 l) signature_bytes) (sym (drop-drop 40 at b))

-- the volumes from a place on begin at one list of places
one_walk : (from : ℕ) (b xs ys : List ℕ) → FoundFrom from b xs → FoundFrom from b ys → xs ≡ ys
one_walk from b [] [] f g = refl
one_walk from b [] (p ∷ ps) f (m, (l, e, none, v), rest) = absurd (f p m l e v)
one_walk from b (o ∷ os) [] (n, (l, e, none, v), rest) g = absurd (g o n l e v)
one_walk from b (o ∷ os) (p ∷ ps) (n, (l, e, none, v), rest) (m, (k, d, free, w), more) =
    go (cases_lt p o) (cases_lt o p) (λ h. one_walk (o + n) b os ps rest h)
  where
    go : (p < o) ⊎ (o ≤ p) → (o < p) ⊎ (p ≤ o) → (FoundFrom (o + n) b ps → os ≡ ps) → o ∷ os ≡ p ∷ ps
    go (inl u) _ tail = absurd (none p m k u d w)
    go (inr _) (inl u) tail = absurd (free o n l u e v)
    go (inr s) (inr t) tail =
        let same : o ≡ p = omega (arith, s, t) in
        let len : n ≡ m = one_length b o n m v (subst (λ j. VolumeAt b j m) (sym same) w) in
        let next : p + m ≡ o + n = omega (arith, same, len) in
        ap (λ j. j ∷ os) same ∙ ap (λ r. p ∷ r) (tail (subst (λ j. FoundFrom j b ps) next more))

-- ---- the volumes that the walk finds

weaker : (P Q : ℕ → Type 0) → ((k : ℕ) → P k → Q k) → (xs : List ℕ) → AllByRecursion P xs → AllByRecursion Q xs
weaker P Q f xs h = recursion_from_All Q xs (All-weaker P Q f xs (All-from_recursion P xs h))

from_least : (from : ℕ) (b os : List ℕ) → FoundFrom from b os → AllByRecursion (λ p. from ≤ p) os
from_least from b [] f = tt
from_least from b (o ∷ os) (n, (l, e, none, v), rest) =
    (l, weaker (λ p. o + n ≤ p) (λ p. from ≤ p) (λ p u. omega (arith, l, u)) os (from_least (o + n) b os rest))

walk_places : (from : ℕ) (b os : List ℕ) → FoundFrom from b os → AllByRecursion (IsPlace b) os
walk_places from b [] f = tt
walk_places from b (o ∷ os) (n, (l, e, none, v), rest) = ((e, (n, v)), walk_places (o + n) b os rest)

walk_apart : (from : ℕ) (b os : List ℕ) → FoundFrom from b os → DoNotOverlap b os
walk_apart from b [] f = tt
walk_apart from b (o ∷ os) (n, (l, e, none, v), rest) =
    (weaker (λ p. o + n ≤ p) (IsAfter b o) lies os (from_least (o + n) b os rest), walk_apart (o + n) b os rest)
  where
    lies : (p : ℕ) → o + n ≤ p → IsAfter b o p
    lies p u = (omega (arith, u, at_least b o n v), λ m w. omega (arith, u, one_length b o n m v w))

walk_all : (from : ℕ) (b os : List ℕ) → FoundFrom from b os → (k n : ℕ) → from ≤ k → k % 8 ≡ 0 → VolumeAt b k n → IsCovered b os k
walk_all from b [] f k n l m v = absurd (f k n l m v)
walk_all from b (o ∷ os) (len, (low, e, none, w), rest) k n l m v =
    go (cases_lt k o) (cases_lt k (o + len)) (λ u. walk_all (o + len) b os rest k n u m v)
  where
    go : (k < o) ⊎ (o ≤ k) → (k < o + len) ⊎ (o + len ≤ k) → (o + len ≤ k → IsCovered b os k) → IsCovered b (o ∷ os) k
    go (inl u) _ more = absurd (none k n l u m v)
    go (inr t) (inl u) more = (o, len, (0, omega arith, refl), w, t, u)
    go (inr t) (inr u) more = let c = more u in (c.0, c.1, one_behind o os c.0 c.2, c.3, c.4, c.5)

pub walk_found : (b os : List ℕ) → FoundFrom 0 b os → Found b os
walk_found b os f = record {
  places = walk_places 0 b os f;
  do_not_overlap = walk_apart 0 b os f;
  all = λ k n m v. walk_all 0 b os f k n (omega arith) m v;
}

-- ---- the volumes that are found are the volumes of a walk

abbrev AllFrom : ℕ → List ℕ → List ℕ → Type 0
AllFrom from b os = (k n : ℕ) → from ≤ k → k % 8 ≡ 0 → VolumeAt b k n → IsCovered b os k

covered_none : (b : List ℕ) (k : ℕ) → IsCovered b [] k → ⊥
covered_none b k (o, n, (j, l, e), w, s, u) = omega (arith, l)

-- if every volume from a place on begins within a listed one, no volume begins before the first of these
covered_between : (from : ℕ) (b : List ℕ) (o : ℕ) (os : List ℕ) → AllByRecursion (IsAfter b o) os → AllFrom from b (o ∷ os)
    → NoneBetween b from o
covered_between from b o os clear all = λ k n l u m v. go k u (all k n l m v) where
  go : (k : ℕ) → k < o → IsCovered b (o ∷ os) k → ⊥
  go k u (p, j, h, w, s, t) = at (first_or_behind o os p h) where
    at : (o ≡ p) ⊎ Contains os p → ⊥
    at (inl e) = omega (arith, e, u, s)
    at (inr h) = omega (arith, (All-contains (IsAfter b o) os p (All-from_recursion (IsAfter b o) os clear) h).0, u, s)

-- if every volume from a place on begins within a listed one, every volume from the end of the first listed one on
-- begins within one of the others
covered_rest : (from : ℕ) (b : List ℕ) (o n : ℕ) (os : List ℕ) → from ≤ o → VolumeAt b o n → AllFrom from b (o ∷ os) → AllFrom (o + n) b os
covered_rest from b o n os low v all = λ k m l e w. go k l (all k m (omega (arith, low, l)) e w) where
  go : (k : ℕ) → o + n ≤ k → IsCovered b (o ∷ os) k → IsCovered b os k
  go k l (p, j, h, w, s, t) = at (first_or_behind o os p h) where
    at : (o ≡ p) ⊎ Contains os p → IsCovered b os k
    at (inl e) = absurd (omega (arith, e, l, t, one_length b o n j v (subst (λ i. VolumeAt b i j) (sym e) w)))
    at (inr h) = (p, j, h, w, s, t)

walk_back : (from : ℕ) (b os : List ℕ) → AllByRecursion (λ p. from ≤ p) os → AllByRecursion (IsPlace b) os → DoNotOverlap b os → AllFrom from b os
    → FoundFrom from b os
walk_back from b [] low places apart all = λ k n l m v. covered_none b k (all k n l m v)
walk_back from b (o ∷ os) (low, lows) ((e, (n, v)), places) (clear, apart) all = (
  n,
  (low, e, covered_between from b o os clear all, v),
  walk_back (o + n) b os (weaker (IsAfter b o) (λ p. o + n ≤ p) (λ p c. c.1 n v) os clear) places apart
      (covered_rest from b o n os low v all),
)

pub found_walk : (b os : List ℕ) → Found b os → FoundFrom 0 b os
found_walk b os f =
    walk_back 0 b os (weaker (IsPlace b) (λ p. 0 ≤ p) (λ p h. omega arith) os f.places) f.places f.do_not_overlap (λ k n l m v. f.all k n m v)

-- ---- for callers

-- the volumes in some bytes begin at one list of places
pub one_found : (b xs ys : List ℕ) → Found b xs → Found b ys → xs ≡ ys
one_found b xs ys f g = one_walk 0 b xs ys (found_walk b xs f) (found_walk b ys g)

-- if there is a volume, it begins at a place
pub some_place : (b : List ℕ) (volumes : List FoundVolume) (i : ℕ) → AreFound b volumes → i < length volumes → (place : ℕ) × IsPlace b place
some_place b [] i found less = absurd (omega (arith, less))
some_place b (v ∷ vs) i found less = (v.offset, found.0.places.0)

-- volumes at the same places are the same
same_volumes : (b : List ℕ) (xs ys : List FoundVolume) → offsets_of xs ≡ offsets_of ys
    → AllByRecursion (λ v. VolumeAt b v.offset v.length) xs → AllByRecursion (λ v. VolumeAt b v.offset v.length) ys → xs ≡ ys
same_volumes b [] [] same all all' = refl
same_volumes b [] (y ∷ ys) same all all' = let bad : [] ≡ y.offset ∷ offsets_of ys = same in cc
same_volumes b (x ∷ xs) [] same all all' = let bad : x.offset ∷ offsets_of xs ≡ [] = same in cc
same_volumes b (x ∷ xs) (y ∷ ys) same (v, all) (w, all') =
    let first : x.offset ≡ y.offset = cc in
    let rest : offsets_of xs ≡ offsets_of ys = cc in
    let long : x.length ≡ y.length = one_length b y.offset x.length y.length (subst (λ k. VolumeAt b k x.length) first v) w in
    let made : ℕ → ℕ → FoundVolume = λ o n. record { offset = o; length = n } in
    let is : x ≡ y = ap (λ o. made o x.length) first ∙ ap (λ n. made y.offset n) long in
    ap (λ v. v ∷ xs) is ∙ ap (λ l. y ∷ l) (same_volumes b xs ys rest all all')

-- some bytes have one list of volumes
pub one_are : (b : List ℕ) (xs ys : List FoundVolume) → AreFound b xs → AreFound b ys → xs ≡ ys
one_are b xs ys f g = same_volumes b xs ys (one_found b (offsets_of xs) (offsets_of ys) f.0 g.0) f.1 g.1
