-- The block map of a header whose HeaderLength is not possible.
use Rattle.std.proofs.Common.{◌≡◌, ◌≤◌, ◌<◌, ◌+◌, ◌-◌, ◌*◌, ℕ, List, [], ◌∷◌, Bool, true, false, drop, take, min, length, refl, ap, ◌∙◌, if◌then◌else◌, arith, length-drop}
use Rattle.std.proofs.lemmas.List.{length-take, take_min}
use Rattle.fv_base.specs.Words.{header_limit, field, le}
use Rattle.fv_head.specs.Words.{pairs_of, is_zero_pair}
use Rattle.fv_survey.specs.Words.{map_end, mapped_end}

-- the first eight bytes are the first pair
pub pairs_more : (xs : List ℕ) → 8 ≤ length xs → pairs_of xs ≡ (le (take 4 xs), le (take 4 (drop 4 xs))) ∷ pairs_of (drop 8 xs)
pairs_more [] h = absurd (omega arith)
pairs_more (a ∷ []) h = absurd (omega arith)
pairs_more (a ∷ b ∷ []) h = absurd (omega arith)
pairs_more (a ∷ b ∷ c ∷ []) h = absurd (omega arith)
pairs_more (a ∷ b ∷ c ∷ d ∷ []) h = absurd (omega arith)
pairs_more (a ∷ b ∷ c ∷ d ∷ e ∷ []) h = absurd (omega arith)
pairs_more (a ∷ b ∷ c ∷ d ∷ e ∷ f ∷ []) h = absurd (omega arith)
pairs_more (a ∷ b ∷ c ∷ d ∷ e ∷ f ∷ g ∷ []) h = absurd (omega arith)
pairs_more (a ∷ b ∷ c ∷ d ∷ e ∷ f ∷ g ∷ i ∷ bs) h = refl

-- fewer than eight bytes contain no pair
pub pairs_none : (xs : List ℕ) → length xs < 8 → pairs_of xs ≡ []
pairs_none [] h = refl
pairs_none (a ∷ []) h = refl
pairs_none (a ∷ b ∷ []) h = refl
pairs_none (a ∷ b ∷ c ∷ []) h = refl
pairs_none (a ∷ b ∷ c ∷ d ∷ []) h = refl
pairs_none (a ∷ b ∷ c ∷ d ∷ e ∷ []) h = refl
pairs_none (a ∷ b ∷ c ∷ d ∷ e ∷ f ∷ []) h = refl
pairs_none (a ∷ b ∷ c ∷ d ∷ e ∷ f ∷ g ∷ []) h = refl
pairs_none (a ∷ b ∷ c ∷ d ∷ e ∷ f ∷ g ∷ i ∷ bs) h = absurd (omega arith)

-- the end by a block map is 56, or within the bytes of the block map
map_lies : (ps : List (ℕ × ℕ)) (at n : ℕ) → 56 ≤ at → at + 8 * length ps ≤ n → (56 ≤ map_end at ps) × (map_end at ps ≤ n)
map_lies [] at n least most = (omega arith, omega (arith, least, most))
map_lies (p ∷ ps) at n least most =
    go (is_zero_pair p) (map_lies ps (at + 8) n (omega (arith, least)) (omega (arith, most))) where
      go : (t : Bool) → (56 ≤ map_end (at + 8) ps) × (map_end (at + 8) ps ≤ n)
          → (let m : ℕ = if t then at + 8 else map_end (at + 8) ps in (56 ≤ m) × (m ≤ n))
      go true ih = (omega (arith, least), omega (arith, most))
      go false ih = ih

pairs_fit : (xs : List ℕ) → 8 * length (pairs_of xs) ≤ length xs
pairs_fit [] = omega arith
pairs_fit (a ∷ []) = omega arith
pairs_fit (a ∷ b ∷ []) = omega arith
pairs_fit (a ∷ b ∷ c ∷ []) = omega arith
pairs_fit (a ∷ b ∷ c ∷ d ∷ []) = omega arith
pairs_fit (a ∷ b ∷ c ∷ d ∷ e ∷ []) = omega arith
pairs_fit (a ∷ b ∷ c ∷ d ∷ e ∷ f ∷ []) = omega arith
pairs_fit (a ∷ b ∷ c ∷ d ∷ e ∷ f ∷ g ∷ []) = omega arith
pairs_fit (a ∷ b ∷ c ∷ d ∷ e ∷ f ∷ g ∷ i ∷ bs) = omega (arith, pairs_fit bs)

-- the block map is read from the bytes that are there, and at most up to the limit of a header
pub map_bytes : (b : List ℕ) → 56 ≤ length b → field 56 (min (length b) header_limit - 56) b ≡ field 56 (header_limit - 56) b
map_bytes b long =
    let same : min (length b) header_limit - 56 ≡ min (header_limit - 56) (length (drop 56 b)) = omega (arith, length-drop 56 b) in
    ap (λ (n : ℕ). take n (drop 56 b)) same ∙ take_min (header_limit - 56) (drop 56 b)

pub mapped_lies : (b : List ℕ) → 56 ≤ length b → (56 ≤ mapped_end b) × (mapped_end b ≤ length b)
mapped_lies b long =
    let xs : List ℕ = field 56 (header_limit - 56) b in
    let most : 56 + length xs ≤ length b = omega (arith, long, length-take (header_limit - 56) (drop 56 b), length-drop 56 b) in
    map_lies (pairs_of xs) 56 (length b) (omega arith) (omega (arith, most, pairs_fit xs))
