-- Steps of the walks over a header: the bytes that a sink has taken after one more byte, pair or field.
use Rattle.std.proofs.Common.{◌≡◌, ◌<◌, ◌≤◌, ℕ, ◌+◌, ◌%◌, [], ◌∷◌, ◌++◌, List, length, take, drop, get_or, refl, sym}
use Rattle.fv_base.proofs.Laws.{ap, ◌∙◌, subst, arith, append_assoc, append-nil, Bool, not, common_steps, take_more, drop_more, drop_all, le_bytes}
use Rattle.fv_head.specs.Words.{pairs_bytes}
use Rattle.fv_head.specs.inner.WordSums.{adds_joined, word_weight, is_high_after}

-- the sum so far and one more byte are the sum up to the next index
pub byte_added : (high h : Bool) (xs : List ℕ) (i t0 t w : ℕ) → i < length xs → h ≡ is_high_after high (take i xs)
    → t % 65536 ≡ (t0 + word_weight high (take i xs)) % 65536
    → w ≡ word_weight h (get_or xs i 0 ∷ [])
    → (not h ≡ is_high_after high (take (i + 1) xs)) × ((t + w) % 65536 % 65536 ≡ (t0 + word_weight high (take (i + 1) xs)) % 65536)
byte_added high h xs i t0 t w within first total is =
    let x : List ℕ = get_or xs i 0 ∷ [] in
    let more : (t + w) % 65536 % 65536 ≡ (t + word_weight h x) % 65536 = rw (← is) (omega arith) in
    let both = adds_joined t0 t ((t + w) % 65536) high h (not h) (take i xs) x first refl total more in
    rw (take_more xs i 0 within) both

-- the pairs so far and one more pair, with the pairs that are left, are all pairs
pub pairs_step : (front : List ℕ) (ps : List (ℕ × ℕ)) (i : ℕ) → i < length ps → front ++ pairs_bytes (drop i ps) ≡ pairs_bytes ps
    → (front ++ (le_bytes 4 (get_or ps i (0, 0)).0 ++ le_bytes 4 (get_or ps i (0, 0)).1)) ++ pairs_bytes (drop (i + 1) ps) ≡ pairs_bytes ps
pairs_step front ps i within is = grind (arith, common_steps, append_assoc, drop_more)

-- if no pair is left, the bytes so far are the bytes of all pairs
pub pairs_end : (front : List ℕ) (ps : List (ℕ × ℕ)) (i : ℕ) → length ps ≤ i → front ++ pairs_bytes (drop i ps) ≡ pairs_bytes ps
    → front ≡ pairs_bytes ps
pairs_end front ps i past is = sym (append-nil front) ∙ ap (λ (qs : List (ℕ × ℕ)). front ++ pairs_bytes qs) (sym (drop_all i ps past)) ∙ is

-- nine lists that are joined from the right are the same lists joined from the left
pub nine_joined : (a b c d e f g h i : List ℕ)
    → a ++ (b ++ (c ++ (d ++ (e ++ (f ++ (g ++ (h ++ i))))))) ≡ a ++ b ++ c ++ d ++ e ++ f ++ g ++ h ++ i
nine_joined a b c d e f g h i = simp append_assoc refl

-- a walk over some bytes is a walk over equal bytes
pub renamed : {S : Type 0} (takes : S → List ℕ → S → Type 0) {s t : S} {a b : List ℕ} → takes s a t → a ≡ b → takes s b t
renamed takes {s} {t} taken same = subst (λ (xs : List ℕ). takes s xs t) same taken
