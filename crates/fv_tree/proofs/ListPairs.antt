-- Two lists that agree item by item, and the first item that is rejected.
use Rattle.std.proofs.Common.{◌≡◌, ℕ, ◌+◌, ◌<◌, ◌≤◌, [], ◌∷◌, ◌++◌, List, length, take, get_or, map, subst, arith, take_all}
use Rattle.fv_base.proofs.Laws.{length-map, get_or-map, AllByRecursion, Which, First, at_index, more_items, seam_items, two_cuts, common_steps}
use Rattle.fv_tree.specs.Words.{Pairwise, OneOf}

-- two lists that agree still agree if a pair of items that agree is appended
pub pairs_push : {A B : Type 0} (R : A → B → Type 0) (xs : List A) (ys : List B) (x : A) (y : B) → Pairwise R xs ys → R x y
    → Pairwise R (xs ++ x ∷ []) (ys ++ y ∷ [])
pairs_push R [] [] x y p r = (r, tt)
pairs_push R (a ∷ xs) (b ∷ ys) x y p r = (p.0, pairs_push R xs ys x y p.1 r)
pairs_push R _ _ x y p r = absurd p

-- ---- the invariants of a loop over items, if each item has a form

module _ {A B X : Type 0} (R : A → B → Type 0) (form : X → A) (items : List X) (i : ℕ) (d : X) where
  -- a property of each form is a property of the form of item i
  pub of_item : (P : A → Type 0) → AllByRecursion P (map form items) → i < length items → P (form (get_or items i d))
  of_item P all l = subst P (get_or-map form items i d (form d) l) (at_index P _ i (form d) all (omega (arith, l, length-map items form)))

  -- if item i is read, the lists agree up to it
  pub kept_pairs : (ys new : List B) (y : B) → i < length items → Pairwise R (take i (map form items)) ys
      → R (form (get_or items i d)) y → new ≡ ys ++ y ∷ []
      → Pairwise R (take (i + 1) (map form items)) new
  kept_pairs ys new y l pairs r e = rw (more_items form items i d l, e) (pairs_push R _ ys _ y pairs r)

  -- if item i is rejected, it is the first one that is rejected
  pub first_refused : (fault : A → Type 0) (ys : List B) → i < length items → Pairwise R (take i (map form items)) ys
      → fault (form (get_or items i d)) → OneOf First R fault (map form items)
  first_refused fault ys l pairs bad = (_, _, _, seam_items form items i d l, (ys, pairs), bad)

  -- at the end all items are read
  pub all_pairs : (ys : List B) → length items ≤ i → Pairwise R (take i (map form items)) ys → Pairwise R (map form items) ys
  all_pairs ys l pairs = subst (λ xs. Pairwise R xs ys) (take_all i (map form items) (omega (arith, l, length-map items form))) pairs

-- ---- an item that is rejected

-- a list with an item that is paired with nothing does not agree with any list
not_paired : {A B : Type 0} (R : A → B → Type 0) (before : List A) (x : A) (after : List A) (ys : List B) → ((y : B) → R x y → ⊥)
    → Pairwise R (before ++ (x ∷ after)) ys → ⊥
not_paired R [] x after (y ∷ ys) bad p = bad y p.0
not_paired R (z ∷ zs) x after (y ∷ ys) bad p = not_paired R zs x after ys bad p.1
not_paired R _ x after _ bad p = absurd p

-- if an item is rejected, not all items are read
pub one_of_none : {A B : Type 0} (which : Which) (R : A → B → Type 0) (fault : A → Type 0) (xs : List A) (ys : List B)
    → ((x : A) (y : B) → fault x → R x y → ⊥) → OneOf which R fault xs → Pairwise R xs ys → ⊥
one_of_none {A} which R fault xs ys bad (before, x, after, is, read, here) all =
    not_paired R before x after ys (λ y r. bad x y here r) (subst (λ (l : List A). Pairwise R l ys) is all)

-- if the first item that is rejected has two faults, they are faults of the same item
pub first_of_once : {A B : Type 0} (R : A → B → Type 0) (P Q : A → Type 0) (xs : List A) → ((x : A) (y : B) → P x → R x y → ⊥)
    → ((x : A) (y : B) → Q x → R x y → ⊥) → OneOf First R P xs → OneOf First R Q xs → (x : A) × P x × Q x
first_of_once {A} R P Q xs no_p no_q one_of other_one_of = grind (arith, common_steps, two_cuts, not_paired) steps 150000
