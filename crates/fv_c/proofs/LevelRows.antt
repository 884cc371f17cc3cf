-- Proves that loops over the sources of an image go on with the next source: what they have made of the sources so far,
-- and the next source, is what is made of one source more (`flat_next`). There is a source at each number before the end
-- (`not_past`). The contents of the next source follow the contents so far in the buffer (`put_next`).
use Rattle.std.proofs.Common.{◌≡◌, ◌<◌, ◌≤◌, ◌+◌, ◌∙◌, ◌++◌, ℕ, List, [], ◌∷◌, ap, append-nil, append_assoc, arith, drop, get_or, length, sym, take}
use Rattle.std.proofs.Common.{None, Some, slice_get}
use Rattle.std.specs.List.{flat_map}
use Rattle.std.proofs.lemmas.Grind.{flat_map-append}
use Rattle.std.proofs.lemmas.List.{drop-drop, drop_at, take_at, take_more}
use Rattle.std.proofs.lemmas.List.Folds.{length-flat_map-take}
use Rattle.std.proofs.lemmas.Option.{get_or_from_slice_get, slice_get-get_or, slice_get_within}

pub not_past : {X : Type 0} (xs : List X) (i : ℕ) → None ≡ slice_get xs i → i < length xs → ⊥
not_past [] i is within = omega (arith, within)
not_past (x ∷ xs) i is within = let some = slice_get-get_or (x ∷ xs) i x within in cc

module _ {X Y : Type 0} (f : X → List Y) (xs : List X) (i : ℕ) (x : X) (is : Some x ≡ slice_get xs i) where
  within : i < length xs
  within = slice_get_within xs i x (sym is)

  here : get_or xs i x ≡ x
  here = get_or_from_slice_get xs i x x (sym is)

  pub flat_next : flat_map f (take (i + 1) xs) ≡ flat_map f (take i xs) ++ f x
  flat_next =
      ap (flat_map f) (take_more xs i x within) ∙ flat_map-append f (take i xs) (get_or xs i x ∷ [])
      ∙ ap (λ y. flat_map f (take i xs) ++ (f y ++ [])) here ∙ ap (λ l. flat_map f (take i xs) ++ l) (append-nil (f x))

  pub flat_room : length (flat_map f (take i xs)) + length (f x) ≤ length (flat_map f xs)
  flat_room =
      let most : length (flat_map f (take i xs)) + length (f (get_or xs i x)) ≤ length (flat_map f xs) = length-flat_map-take f xs i x within in
      rw here at most

  pub put_next : (place : ℕ) (old buffer new : List Y) → place ≡ length (flat_map f (take i xs))
      → buffer ≡ flat_map f (take i xs) ++ drop place old
      → new ≡ take place buffer ++ (f x ++ drop (place + length (f x)) buffer)
      → new ≡ flat_map f (take (i + 1) xs) ++ drop (place + length (f x)) old
  put_next place old buffer new at so_far by =
      let done : List Y = flat_map f (take i xs) in
      let front : take place buffer ≡ done = ap (take place) so_far ∙ take_at done (drop place old) place (sym at) in
      let back : drop (place + length (f x)) buffer ≡ drop (place + length (f x)) old =
      sym (drop-drop (length (f x)) place buffer) ∙ ap (drop (length (f x))) (ap (drop place) so_far ∙ drop_at done (drop place old) place (sym at))
      ∙ drop-drop (length (f x)) place old in
      by ∙ ap (λ l. l ++ (f x ++ drop (place + length (f x)) buffer)) front ∙ ap (λ l. done ++ (f x ++ l)) back
      ∙ sym (append_assoc done (f x) (drop (place + length (f x)) old)) ∙ ap (λ l. l ++ drop (place + length (f x)) old) (sym flat_next)
