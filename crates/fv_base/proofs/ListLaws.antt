-- Laws of lists:
-- 1. A property of every item is a property of the item at an index, of the item at a cut, of the items after it, and
--    of the items that a filter keeps (`at_index`, `in_middle`, `after_middle`, `all_filter`). An item is the first or
--    one after it (`first_or_behind`, `one_behind`).
-- 2. If one list is cut at two items, both cuts are at the same item, or one is before the other (`two_cuts`).
-- 3. The items from an index on, and up to an index (`item_at`, `more_items`, `seam_items`).
-- 4. A filter by a note keeps the same items as a filter by a test (`kept_noted`). A list takes the place of another
--    (`in_place`).
use Rattle.std.proofs.lemmas.Grind.{common_steps}
use Rattle.std.proofs.Common.{◌≡◌, ◌⊎◌, ℕ, zero, suc, ◌+◌, ◌<◌, Bool, true, false, not, List, [], ◌∷◌, ◌++◌, length, take, drop, get_or, map}
use Rattle.std.proofs.Common.{refl, sym, ap, ◌∙◌, inl, inr, arith}
use Rattle.std.specs.List.{All, AllByRecursion, Contains, filter}
use Rattle.std.proofs.lemmas.List.{append-nil, drop_all, drop_more, get_or-map, length-map, take-append-drop, take_all, take_more}
use Rattle.std.proofs.lemmas.List.Elements.{recursion_from_All}

-- a property of every item is a property of the item at an index
pub at_index : {X : Type 0} (P : X → Type 0) (xs : List X) (i : ℕ) (d : X) → AllByRecursion P xs → i < length xs → P (get_or xs i d)
at_index P [] i d all l = absurd (never l) where
  never : i < 0 → ⊥
  never h = omega (arith, h)
at_index P (x ∷ xs) zero d all l = all.0
at_index P (x ∷ xs) (suc i) d all l = at_index P xs i d all.1 (omega arith)

-- a property of every item is a property of the item where the list is cut
pub in_middle : {X : Type 0} (P : X → Type 0) (before : List X) (x : X) (after : List X) → AllByRecursion P (before ++ (x ∷ after)) → P x
in_middle P [] x after all = all.0
in_middle P (z ∷ zs) x after all = in_middle P zs x after all.1

-- a property of every item is a property of the items after the cut
pub after_middle : {X : Type 0} (P : X → Type 0) (before : List X) (x : X) (after : List X) → AllByRecursion P (before ++ (x ∷ after))
    → AllByRecursion P after
after_middle P [] x after all = all.1
after_middle P (z ∷ zs) x after all = after_middle P zs x after all.1

-- a property of every item is a property of the items that a filter keeps
pub all_filter : {X : Type 0} (test : X → Bool) (P : X → Type 0) (xs : List X) → AllByRecursion P xs → AllByRecursion P (filter test xs)
all_filter test P [] h = tt
all_filter {X} test P (x ∷ xs) h = go (test x) refl (all_filter test P xs h.1) where
  go : (t : Bool) → test x ≡ t → AllByRecursion P (filter test xs) → AllByRecursion P (filter test (x ∷ xs))
  go true e rest = rw e (h.0, rest)
  go false e rest = rw e rest

-- an item of a list is its first or one after it
pub first_or_behind : {X : Type 0} (x : X) (xs : List X) (y : X) → Contains (x ∷ xs) y → (x ≡ y) ⊎ Contains xs y
first_or_behind x xs y has = grind (arith, common_steps)

pub one_behind : {X : Type 0} (x : X) (xs : List X) (y : X) → Contains xs y → Contains (x ∷ xs) y
one_behind x xs y (k, l, e) = (suc k, omega (arith, l), e)

-- ---- two cuts

-- the first cut is before the second: its item is among the items before the second cut
abbrev pub Earlier : {A : Type 0} → List A → A → List A → List A → A → List A → Type 0
Earlier {A} before x after before' y after' = (mid : List A) × (before' ≡ before ++ (x ∷ mid)) × (after ≡ mid ++ (y ∷ after'))

-- two cuts of one list are at the same item, or one is before the other
abbrev pub TwoCuts : {A : Type 0} → List A → A → List A → List A → A → List A → Type 0
TwoCuts before x after before' y after' =
    ((before ≡ before') × (x ≡ y)) ⊎ (Earlier before x after before' y after' ⊎ Earlier before' y after' before x after)

pub two_cuts : {A : Type 0} (before : List A) (x : A) (after before' : List A) (y : A) (after' : List A)
    → before ++ (x ∷ after) ≡ before' ++ (y ∷ after') → TwoCuts before x after before' y after'
two_cuts [] x after [] y after' e = let same : x ≡ y = cc in inl (refl, same)
two_cuts [] x after (z ∷ zs) y after' e =
    let head : z ≡ x = cc in
    let tail : after ≡ zs ++ (y ∷ after') = cc in
    inr (inl (zs, ap (λ w. w ∷ zs) head, tail))
two_cuts (z ∷ zs) x after [] y after' e =
    let head : z ≡ y = cc in
    let tail : after' ≡ zs ++ (x ∷ after) = cc in
    inr (inr (zs, ap (λ w. w ∷ zs) head, tail))
two_cuts {A} (z ∷ zs) x after (w ∷ ws) y after' e =
    let head : z ≡ w = cc in
    let tail : zs ++ (x ∷ after) ≡ ws ++ (y ∷ after') = cc in
    go head (two_cuts zs x after ws y after' tail)
  where
    go : z ≡ w → TwoCuts zs x after ws y after' → TwoCuts (z ∷ zs) x after (w ∷ ws) y after'
    go h (inl (same, item)) = inl (ap (λ l. z ∷ l) same ∙ ap (λ v. v ∷ ws) h, item)
    go h (inr (inl (mid, is, rest))) = inr (inl (mid, ap (λ l. w ∷ l) is ∙ ap (λ v. v ∷ (zs ++ (x ∷ mid))) (sym h), rest))
    go h (inr (inr (mid, is, rest))) = inr (inr (mid, ap (λ l. z ∷ l) is ∙ ap (λ v. v ∷ (ws ++ (y ∷ mid))) h, rest))

-- ---- one item more

-- the list from an index on is the item at the index, and then the rest
pub item_at : {X : Type 0} (xs : List X) (i : ℕ) (x : X) → i < length xs → x ≡ get_or xs i x → drop i xs ≡ x ∷ drop (i + 1) xs
item_at xs i x l is = drop_more xs i x l ∙ ap (λ y. y ∷ drop (i + 1) xs) (sym is)

-- the mapped list up to the next index, and the mapped list as the items before an index, the item there and the items
-- after it
module _ {X A : Type 0} (form : X → A) (items : List X) (i : ℕ) (d : X) where
  pub more_items : i < length items → take (i + 1) (map form items) ≡ take i (map form items) ++ form (get_or items i d) ∷ []
  more_items l =
      let lt : i < length (map form items) = omega (arith, l, length-map items form) in
      take_more (map form items) i (form d) lt ∙ ap (λ f. take i (map form items) ++ f ∷ []) (get_or-map form items i d (form d) l)

  pub seam_items : i < length items → map form items ≡ take i (map form items) ++ form (get_or items i d) ∷ drop (i + 1) (map form items)
  seam_items l =
      let lt : i < length (map form items) = omega (arith, l, length-map items form) in
      sym (take-append-drop i (map form items)) ∙ ap (λ r. take i (map form items) ++ r) (drop_more (map form items) i (form d) lt
      ∙ ap (λ f. f ∷ drop (i + 1) (map form items)) (get_or-map form items i d (form d) l))

-- ---- the items that are kept

-- if a note of each item has the result of a test, removing the items with the note removes the items for which the
-- test is true
pub kept_noted : {X A : Type 0} (form : X → A) (note : X → Bool) (test : A → Bool) (xs : List X)
    → All (λ x. note x ≡ test (form x)) xs → map form (filter (λ x. not (note x)) xs) ≡ filter (λ f. not (test f)) (map form xs)
kept_noted {X} {A} form note test xs all = go xs (recursion_from_All (λ x. note x ≡ test (form x)) xs all) where
  go : (ys : List X) → AllByRecursion (λ x. note x ≡ test (form x)) ys
      → map form (filter (λ x. not (note x)) ys) ≡ filter (λ f. not (test f)) (map form ys)
  go [] h = refl
  go (y ∷ ys) h = one (test (form y)) refl (go ys h.1) where
    one : (t : Bool) → test (form y) ≡ t → map form (filter (λ x. not (note x)) ys) ≡ filter (λ f. not (test f)) (map form ys)
        → map form (filter (λ x. not (note x)) (y ∷ ys)) ≡ filter (λ f. not (test f)) (map form (y ∷ ys))
    one true is rest = rw (h.0, is) rest
    one false is rest = rw (h.0, is) (ap (λ (l : List A). form y ∷ l) rest)

-- a list that is written over the start of a list of its length is all of the result
pub in_place : {X : Type 0} (new old : List X) (n : ℕ) → length new ≡ length old → n ≡ length old
    → take n (new ++ drop (length new) old) ≡ new
in_place {X} new old n long count = grind (arith, common_steps, drop_all, append-nil, take_all)
