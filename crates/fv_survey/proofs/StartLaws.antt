-- The search for the first place where a volume may begin.
use Rattle.std.proofs.Common.{◌≡◌, ◌≤◌, ◌<◌, ◌+◌, ◌-◌, ◌⊎◌, ℕ, zero, suc, List, [], ◌∷◌, Bool, true, false, drop, take, length}
use Rattle.std.proofs.Common.{if◌then◌else◌, true≢false, ◌&&◌, refl, sym, ap, ◌∙◌, subst, arith, inl, inr, nat_le, drop-drop, length-drop, leb-true}
use Rattle.std.proofs.lemmas.List.{length-take}
use Rattle.memchr.specs.Find.{OccursAt, Nowhere}
use Rattle.memchr.proofs.lemmas.MatchLemmas.{OccursAt-from_part}
use Rattle.fv_base.proofs.Laws.{cases_lt, and_split, bytes_eq-Decides, drop_of_length-le, up_is_not_down}
use Rattle.fv_head.specs.Words.{has_signature, signature_bytes}
use Rattle.fv_survey.specs.Words.{first_start, may_begin}

-- ---- signatures

-- a signature that follows k bytes and 40 more is an occurrence at k in the bytes after the first 40
sign_occurs : (b : List ℕ) (k : ℕ) → has_signature (drop k b) ≡ true → OccursAt (drop 40 b) signature_bytes k
sign_occurs b k e =
    let moved : drop 40 (drop k b) ≡ drop k (drop 40 b) =
    drop-drop 40 k b ∙ ap (λ (n : ℕ). drop n b) (omega arith) ∙ sym (drop-drop k 40 b) in
    let there : take 4 (drop 40 (drop k b)) ≡ signature_bytes = (bytes_eq-Decides _ signature_bytes).0 e in
    let part : take 4 (drop k (drop 40 b)) ≡ signature_bytes = ap (take 4) (sym moved) ∙ there in
    let four : length (take 4 (drop k (drop 40 b))) ≡ 4 = ap length part in
    let fits : k + 4 ≤ length (drop 40 b) = omega (arith, four, length-take 4 (drop k (drop 40 b)), length-drop k (drop 40 b)) in
    OccursAt-from_part (drop 40 b) signature_bytes k fits part

-- a place without an occurrence has no signature after 40 bytes
unsigned : (b hay : List ℕ) (k : ℕ) → hay ≡ drop 40 b → (OccursAt hay signature_bytes k → ⊥) → has_signature (drop k b) ≡ false
unsigned b hay k is none = go (has_signature (drop k b)) refl where
  go : (t : Bool) → has_signature (drop k b) ≡ t → has_signature (drop k b) ≡ false
  go true e = absurd (none (subst (λ (h : List ℕ). OccursAt h signature_bytes k) (sym is) (sign_occurs b k e)))
  go false e = e

-- if the signature occurs nowhere before n, no place before n has a signature after 40 bytes
pub unsigned_before : (b hay : List ℕ) (n : ℕ) → hay ≡ drop 40 b → Nowhere (OccursAt hay signature_bytes) 0 n → (k : ℕ) → k < n
    → has_signature (drop k b) ≡ false
unsigned_before b hay n is none k l = unsigned b hay k is (none k (omega arith) l)

-- if the signature occurs nowhere, no place has a signature after 40 bytes
pub unsigned_all : (b hay : List ℕ) → hay ≡ drop 40 b → Nowhere (OccursAt hay signature_bytes) 0 (length hay + 1) → (k : ℕ)
    → has_signature (drop k b) ≡ false
unsigned_all b hay is none k = unsigned b hay k is (λ o. none k (omega arith) (omega (arith, o.fits)) o)

-- fewer than 40 bytes have no signature
pub unsigned_short : (b : List ℕ) → length b < 40 → (k : ℕ) → has_signature (drop k b) ≡ false
unsigned_short b short k = unsigned b (drop 40 b) k refl (λ o. omega (arith, o.fits, length-drop 40 b, short))

-- ---- properties of the places that a search passes

-- A property Q of a place and the bytes from there on holds without a signature. If it holds before `at` and at `at`,
-- and the next n places have no signature, it holds at all these places
pub passed : (Q : ℕ → List ℕ → Type 0) (b here rest : List ℕ) (at n : ℕ) → ((k : ℕ) (c : List ℕ) → has_signature c ≡ false → Q k c)
    → here ≡ drop at b → rest ≡ drop (at + 1) b → ((k : ℕ) → k < at → Q k (drop k b)) → Q at here
    → ((k : ℕ) → k < n → has_signature (drop k rest) ≡ false) → (k : ℕ) → k < at + 1 + n → Q k (drop k b)
passed Q b here rest at n holds here_is rest_is before now after k l = go (cases_lt k at) where
  there : (k ≡ at) → Q k (drop k b)
  there same = subst (λ (i : ℕ). Q i (drop i b)) (sym same) (subst (Q at) here_is now)

  behind : at + 1 ≤ k → Q k (drop k b)
  behind m =
      let i : ℕ = k - (at + 1) in
      let place : at + 1 + i ≡ k = omega (arith, m) in
      let moved : drop i rest ≡ drop k b = ap (drop i) rest_is ∙ drop-drop i (at + 1) b ∙ ap (λ (j : ℕ). drop j b) place in
      holds k (drop k b) (subst (λ (c : List ℕ). has_signature c ≡ false) moved (after i (omega (arith, place, l))))

  later : at ≤ k → (k < at + 1) ⊎ (at + 1 ≤ k) → Q k (drop k b)
  later m (inl s) = there (omega (arith, m, s))
  later m (inr s) = behind s

  go : (k < at) ⊎ (at ≤ k) → Q k (drop k b)
  go (inl s) = before k s
  go (inr m) = later m (cases_lt k (at + 1))

-- no volume may begin without a signature
pub begins_signed : (b : List ℕ) → has_signature b ≡ false → may_begin b ≡ false
begins_signed b none = go (may_begin b) refl where
  go : (t : Bool) → may_begin b ≡ t → may_begin b ≡ false
  go true e =
      let long_signed = and_split (nat_le 56 (length b) && has_signature b) _ e in
      let s : has_signature b ≡ true = (and_split (nat_le 56 (length b)) (has_signature b) long_signed.0).1 in
      absurd (true≢false (sym s ∙ none))
  go false e = e

-- ---- laws of the first start

-- a volume that may begin has at least 56 bytes
pub begins_long : (b : List ℕ) → may_begin b ≡ true → 56 ≤ length b
begins_long b e = leb-true 56 (length b) ((and_split _ _ ((and_split _ _ e).0)).0)

-- the first start is within the bytes or at their end
pub start_within : (b : List ℕ) → first_start b ≤ length b
start_within [] = omega arith
start_within (x ∷ xs) = go (may_begin (x ∷ xs)) (start_within xs) where
  go : (t : Bool) → first_start xs ≤ length xs → (if t then 0 else suc (first_start xs)) ≤ length (x ∷ xs)
  go true ih = omega arith
  go false ih = omega (arith, ih)

-- a volume may begin at the first start
pub start_begins : (b : List ℕ) → first_start b < length b → may_begin (drop (first_start b) b) ≡ true
start_begins [] l = absurd (omega (arith, l))
start_begins (x ∷ xs) l = go (may_begin (x ∷ xs)) refl l (start_begins xs) where
  go : (t : Bool) → may_begin (x ∷ xs) ≡ t → (if t then 0 else suc (first_start xs)) < length (x ∷ xs)
      → (first_start xs < length xs → may_begin (drop (first_start xs) xs) ≡ true)
      → may_begin (drop (if t then 0 else suc (first_start xs)) (x ∷ xs)) ≡ true
  go true is m ih = is
  go false is m ih = ih (omega (arith, m))

-- no volume may begin before the first start
pub start_none : (b : List ℕ) (k : ℕ) → k < first_start b → may_begin (drop k b) ≡ false
start_none [] k l = absurd (omega (arith, l))
start_none (x ∷ xs) zero l = go (may_begin (x ∷ xs)) refl l where
  go : (t : Bool) → may_begin (x ∷ xs) ≡ t → 0 < (if t then 0 else suc (first_start xs)) → may_begin (x ∷ xs) ≡ false
  go true is m = absurd (omega (arith, m))
  go false is m = is
start_none (x ∷ xs) (suc k) l = go (may_begin (x ∷ xs)) l (start_none xs k) where
  go : (t : Bool) → suc k < (if t then 0 else suc (first_start xs)) → (k < first_start xs → may_begin (drop k xs) ≡ false)
      → may_begin (drop k xs) ≡ false
  go true m ih = absurd (omega (arith, m))
  go false m ih = ih (omega (arith, m))

-- if the first start is the end of the bytes, no volume may begin in them
pub start_nowhere : (b : List ℕ) → first_start b ≡ length b → (k : ℕ) → may_begin (drop k b) ≡ false
start_nowhere b ended k = go (cases_lt k (length b)) where
  go : (k < length b) ⊎ (length b ≤ k) → may_begin (drop k b) ≡ false
  go (inl l) = start_none b k (omega (arith, l, ended))
  go (inr l) = rw (drop_of_length-le b l) refl

-- no two places are the first start: the place before which no volume may begin, and at which one may begin or the
-- bytes end
pub start_is : (b : List ℕ) (at : ℕ) → at ≤ length b → ((k : ℕ) → k < at → may_begin (drop k b) ≡ false)
    → (at < length b → may_begin (drop at b) ≡ true) → first_start b ≡ at
start_is b at within before here = same (cases_lt (first_start b) at) (cases_lt at (first_start b)) where
  same : (first_start b < at) ⊎ (at ≤ first_start b) → (at < first_start b) ⊎ (first_start b ≤ at) → first_start b ≡ at
  same (inl l) m = absurd (up_is_not_down _ (start_begins b (omega (arith, l, within))) (before (first_start b) l))
  same (inr l) (inl m) = absurd (up_is_not_down _ (here (omega (arith, m, start_within b))) (start_none b at m))
  same (inr l) (inr m) = omega (arith, l, m)
