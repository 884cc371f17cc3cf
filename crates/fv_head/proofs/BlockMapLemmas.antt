-- The block map of a header is its blocks and then the pair of zeros. The steps:
-- 1. Eight bytes are a pair (`pairs_of-step`), and pairs can be read in parts (`pairs_of-append`).
-- 2. So the block map of a header is its blocks and then one more pair (`block_map_is`). If this pair is taken off, the
--    blocks are left (`last-injective`).
-- 3. A test decides whether a pair is the pair of zeros (`zero_pair_is`, `zero_pair_not`, `none_zero`, `all_not_zero`).
use Rattle.std.proofs.Common.{◌≡◌, ◌≢◌, ◌≤◌, ℕ, ◌+◌, ◌-◌, ◌%◌, [], ◌∷◌, ◌++◌, length-take}
use Rattle.fv_base.proofs.Laws.{List, length, take, drop, refl, ap, ◌∙◌, subst, arith, true, false, length-drop, drop-drop, not, length-take-le}
use Rattle.fv_base.proofs.Laws.{eqb-true, take-add, common_steps, AllByRecursion, drop-take, le, le_at, and_split, take-take_le}
use Rattle.std.specs.List.{list_all}
use Rattle.fv_head.specs.Words.{is_zero_pair, blocks_at, pairs_of}

-- the first eight bytes are the first pair
pub pairs_of-step : (xs : List ℕ) → 8 ≤ length xs → pairs_of xs ≡ (le (take 4 xs), le (take 4 (drop 4 xs))) ∷ pairs_of (drop 8 xs)
pairs_of-step [] h = absurd (omega arith)
pairs_of-step (a ∷ []) h = absurd (omega arith)
pairs_of-step (a ∷ b ∷ []) h = absurd (omega arith)
pairs_of-step (a ∷ b ∷ c ∷ []) h = absurd (omega arith)
pairs_of-step (a ∷ b ∷ c ∷ d ∷ []) h = absurd (omega arith)
pairs_of-step (a ∷ b ∷ c ∷ d ∷ e ∷ []) h = absurd (omega arith)
pairs_of-step (a ∷ b ∷ c ∷ d ∷ e ∷ f ∷ []) h = absurd (omega arith)
pairs_of-step (a ∷ b ∷ c ∷ d ∷ e ∷ f ∷ g ∷ []) h = absurd (omega arith)
pairs_of-step (a ∷ b ∷ c ∷ d ∷ e ∷ f ∷ g ∷ i ∷ bs) h = refl

-- if a property holds of no bytes, and is kept when eight bytes are added, it holds of all bytes whose number is a
-- multiple of 8
pub by_eights : (P : List ℕ → Type 0) → P []
    → ((a b c d e f g i : ℕ) (xs : List ℕ) → P xs → P (a ∷ b ∷ c ∷ d ∷ e ∷ f ∷ g ∷ i ∷ xs))
    → (xs : List ℕ) → length xs % 8 ≡ 0 → P xs
by_eights P none more [] h = none
by_eights P none more (a ∷ []) h = absurd (omega arith)
by_eights P none more (a ∷ b ∷ []) h = absurd (omega arith)
by_eights P none more (a ∷ b ∷ c ∷ []) h = absurd (omega arith)
by_eights P none more (a ∷ b ∷ c ∷ d ∷ []) h = absurd (omega arith)
by_eights P none more (a ∷ b ∷ c ∷ d ∷ e ∷ []) h = absurd (omega arith)
by_eights P none more (a ∷ b ∷ c ∷ d ∷ e ∷ f ∷ []) h = absurd (omega arith)
by_eights P none more (a ∷ b ∷ c ∷ d ∷ e ∷ f ∷ g ∷ []) h = absurd (omega arith)
by_eights P none more (a ∷ b ∷ c ∷ d ∷ e ∷ f ∷ g ∷ i ∷ xs) h = more a b c d e f g i xs (by_eights P none more xs (omega arith))

pairs_of-append : (xs ys : List ℕ) → length xs % 8 ≡ 0 → pairs_of (xs ++ ys) ≡ pairs_of xs ++ pairs_of ys
pairs_of-append xs ys =
    by_eights (λ zs. pairs_of (zs ++ ys) ≡ pairs_of zs ++ pairs_of ys) refl
    (λ a b c d e f g i zs rest. ap (λ (ps : List (ℕ × ℕ)). (le (a ∷ b ∷ c ∷ d ∷ []), le (e ∷ f ∷ g ∷ i ∷ [])) ∷ ps) rest) xs

pub last-injective : (xs ys : List (ℕ × ℕ)) (p q : ℕ × ℕ) → xs ++ (p ∷ []) ≡ ys ++ (q ∷ []) → (xs ≡ ys) × (p ≡ q)
last-injective [] [] p q h = (refl, cc)
last-injective [] (y ∷ []) p q h = cc
last-injective [] (y ∷ z ∷ ys) p q h = cc
last-injective (x ∷ []) [] p q h = cc
last-injective (x ∷ z ∷ xs) [] p q h = cc
last-injective (x ∷ xs) (y ∷ ys) p q h =
    let rest : xs ++ (p ∷ []) ≡ ys ++ (q ∷ []) = cc in
    let head : x ≡ y = cc in
    let ih = last-injective xs ys p q rest in
    (rw (head, ih.0) refl, ih.1)

-- the eight bytes at an offset are one pair of the two numbers there
last_pair : (at : ℕ) (b : List ℕ) → at + 8 ≤ length b → pairs_of (take 8 (drop at b)) ≡ (le_at at 4 b, le_at (at + 4) 4 b) ∷ []
last_pair at b h =
    let d : List ℕ = drop at b in
    let long : 8 ≤ length (take 8 d) = simp (length-take, length-drop) (omega arith) in
    let first : take 4 (take 8 d) ≡ take 4 d = take-take_le 4 8 d (omega arith) in
    let second : take 4 (drop 4 (take 8 d)) ≡ take 4 (drop (at + 4) b) =
    ap (take 4) (drop-take 4 4 d) ∙ take-take_le 4 4 (drop 4 d) (omega arith) ∙ ap (take 4) (drop-drop 4 at b) in
    let behind : drop 8 (take 8 d) ≡ [] = drop-take 8 0 d in
    pairs_of-step (take 8 d) long ∙ rw (first, second, behind) refl

-- a header's block map is its blocks and then the last pair
pub block_map_is : (n : ℕ) (b : List ℕ) → 64 ≤ n → n % 8 ≡ 0 → n ≤ length b
    → pairs_of (drop 56 (take n b)) ≡ blocks_at n b ++ ((le_at (n - 8) 4 b, le_at (n - 4) 4 b) ∷ [])
block_map_is n b least multiple within =
    let split : 56 + ((n - 64) + 8) ≡ n = omega arith in
    let x : List ℕ = drop 56 b in
    let cut : drop 56 (take n b) ≡ take ((n - 64) + 8) x = rw split at (drop-take 56 ((n - 64) + 8) b) in
    let moved : drop (n - 64) x ≡ drop (n - 8) b = drop-drop (n - 64) 56 b ∙ ap (λ (k : ℕ). drop k b) (omega arith) in
    let parts : drop 56 (take n b) ≡ take (n - 64) x ++ take 8 (drop (n - 8) b) =
    cut ∙ take-add (n - 64) 8 x ∙ ap (λ (ys : List ℕ). take (n - 64) x ++ take 8 ys) moved in
    let len : length (take (n - 64) x) ≡ n - 64 = length-take-le (n - 64) x (simp length-drop (omega arith)) in
    let last : pairs_of (take 8 (drop (n - 8) b)) ≡ (le_at (n - 8) 4 b, le_at (n - 4) 4 b) ∷ [] =
    last_pair (n - 8) b (omega arith) ∙ ap (λ (k : ℕ). (le_at (n - 8) 4 b, le_at k 4 b) ∷ []) (omega arith) in
    ap pairs_of parts ∙ pairs_of-append (take (n - 64) x) (take 8 (drop (n - 8) b)) (omega (arith, len))
    ∙ ap (λ (ps : List (ℕ × ℕ)). pairs_of (take (n - 64) x) ++ ps) last

pub zero_pair_is : (p : ℕ × ℕ) → is_zero_pair p ≡ true → p ≡ (0, 0)
zero_pair_is p h = grind (arith, common_steps, and_split, eqb-true)

zero_pair_not : (p : ℕ × ℕ) → p ≢ (0, 0) → is_zero_pair p ≡ false
zero_pair_not p h = grind (arith, common_steps, zero_pair_is)

pub none_zero : (ps : List (ℕ × ℕ)) → list_all (λ p. not (is_zero_pair p)) ps ≡ true → AllByRecursion (λ p. p ≢ (0, 0)) ps
none_zero [] h = tt
none_zero (p ∷ ps) h =
    let both = and_split (not (is_zero_pair p)) (list_all (λ q. not (is_zero_pair q)) ps) h in
    (λ e. let t : not (is_zero_pair (0, 0)) ≡ true = subst (λ (q : ℕ × ℕ). not (is_zero_pair q) ≡ true) e both.0 in cc, none_zero ps both.1)

pub all_not_zero : (ps : List (ℕ × ℕ)) → AllByRecursion (λ p. p ≢ (0, 0)) ps → list_all (λ p. not (is_zero_pair p)) ps ≡ true
all_not_zero [] h = refl
all_not_zero (p ∷ ps) h = rw (zero_pair_not p h.0) (all_not_zero ps h.1)
