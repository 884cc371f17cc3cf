-- The sources from an index on (`some_source`), and whether all of them are clean (`clean_next`).
use Rattle.std.proofs.Common.{◌≡◌, ◌+◌, ◌<◌, ◌&&◌, ℕ, zero, suc, List, [], ◌∷◌, Bool, true, false, Some, drop, length, slice_get, refl, sym, ap, ◌∙◌, arith}
use Rattle.std.specs.List.{list_all}

-- the item at an index, and the items from there on
pub some_source : {X : Type 0} (xs : List X) (i : ℕ) → i < length xs → (x : X) × (slice_get xs i ≡ Some x) × (drop i xs ≡ x ∷ drop (i + 1) xs)
some_source [] i l = absurd (omega (arith, l))
some_source (x ∷ xs) zero l = (x, refl, refl)
some_source (x ∷ xs) (suc i) l =
    let r = some_source xs i (omega (arith, l)) in
    let e : suc i + 1 ≡ suc (i + 1) = omega arith in
    (r.0, r.1, rw e r.2)

and_assoc : (a b c : Bool) → ((a && b) && c) ≡ (a && (b && c))
and_assoc true b c = refl
and_assoc false b c = refl

-- one more item passes the test
pub clean_next : {X : Type 0} (p : X → Bool) (xs left : List X) (x : X) (old here new whole : Bool) → xs ≡ x ∷ left → here ≡ p x
    → new ≡ (old && here) → (old && list_all p xs) ≡ whole → (new && list_all p left) ≡ whole
clean_next p xs left x old here new whole first is grown before =
    rw (grown, is) (and_assoc old (p x) (list_all p left) ∙ (sym (ap (λ l. old && list_all p l) first) ∙ before))
