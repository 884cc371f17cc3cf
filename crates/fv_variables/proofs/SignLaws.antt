-- The signatures of stores and of working blocks, and the search for the first of them.
use Rattle.std.proofs.Common.{◌≡◌, ◌≤◌, ◌<◌, ℕ, zero, suc, List, [], ◌∷◌, Bool, true, false, drop, length, nat_le, if◌then◌else◌, refl, sym, ap}
use Rattle.std.proofs.Common.{true≢false, leb-true, arith}
use Rattle.std.specs.Str.{bytes_eq}
use Rattle.fv_base.proofs.Laws.{bytes_eq-Decides, field}
use Rattle.fv_variables.specs.declared.format.StoreFormat.TheVariants as formats
use Rattle.fv_variables.specs.declared.sign.Sign.{Sign}
use Rattle.fv_variables.specs.declared.sign.Sign.TheVariants as signs
use Rattle.fv_variables.specs.Words.{begins_sign, first_sign, is_sign, sign_by, sign_of, store_guid, working_guid}

-- ---- what a signature says

-- the bytes are the signature of this
abbrev pub Names : Sign → List ℕ → Type 0
Names (signs.Store format) g = g ≡ store_guid format
Names signs.Working g = g ≡ working_guid
Names signs.Nothing g = Unit {0}

named : (g : List ℕ) → Names (sign_of g) g
named g = go (bytes_eq g (store_guid formats.Plain)) (bytes_eq g (store_guid formats.Authenticated)) (bytes_eq g working_guid) refl refl refl
  where
    go : (p q w : Bool) → bytes_eq g (store_guid formats.Plain) ≡ p → bytes_eq g (store_guid formats.Authenticated) ≡ q
        → bytes_eq g working_guid ≡ w
        → Names (if p then signs.Store formats.Plain else (if q then signs.Store formats.Authenticated
        else (if w then signs.Working else signs.Nothing))) g
    go true q w e f h = (bytes_eq-Decides g (store_guid formats.Plain)).0 e
    go false true w e f h = (bytes_eq-Decides g (store_guid formats.Authenticated)).0 f
    go false false true e f h = (bytes_eq-Decides g working_guid).0 h
    go false false false e f h = tt

-- what begins with the bytes has its signature there
pub signed : (b : List ℕ) → Names (sign_by b) (field 0 16 b)
signed b = go (nat_le 32 (length b)) where
  go : (t : Bool) → Names (if t then sign_of (field 0 16 b) else signs.Nothing) (field 0 16 b)
  go true = named (field 0 16 b)
  go false = tt

-- a store or a working block has at least 32 bytes
pub signed_long : (b : List ℕ) → begins_sign b ≡ true → 32 ≤ length b
signed_long b e = go (nat_le 32 (length b)) refl e where
  go : (t : Bool) → nat_le 32 (length b) ≡ t → is_sign (if t then sign_of (field 0 16 b) else signs.Nothing) ≡ true → 32 ≤ length b
  go true is h = leb-true 32 (length b) is
  go false is h = absurd (true≢false (sym h))

-- ---- the first place

pub sign_within : (b : List ℕ) → first_sign b ≤ length b
sign_within [] = omega arith
sign_within (x ∷ xs) = go (begins_sign (x ∷ xs)) (sign_within xs) where
  go : (t : Bool) → first_sign xs ≤ length xs → (if t then 0 else suc (first_sign xs)) ≤ length (x ∷ xs)
  go true l = omega arith
  go false l = omega (arith, l)

-- nothing begins before the first place
pub sign_none : (b : List ℕ) (k : ℕ) → k < first_sign b → begins_sign (drop k b) ≡ false
sign_none [] k l = absurd (omega (arith, l))
sign_none (x ∷ xs) k l = go (begins_sign (x ∷ xs)) refl k l (λ j m. sign_none xs j m) where
  go : (t : Bool) → begins_sign (x ∷ xs) ≡ t → (k : ℕ) → k < (if t then 0 else suc (first_sign xs))
      → ((j : ℕ) → j < first_sign xs → begins_sign (drop j xs) ≡ false) → begins_sign (drop k (x ∷ xs)) ≡ false
  go true is k m later = absurd (omega (arith, m))
  go false is zero m later = is
  go false is (suc k) m later = later k (omega (arith, m))

-- at least one byte comes before the first place, if nothing begins with the bytes
pub sign_later : (b : List ℕ) → 0 < length b → begins_sign b ≡ false → 0 < first_sign b
sign_later [] some none = absurd (omega (arith, some))
sign_later (x ∷ xs) some none = go (begins_sign (x ∷ xs)) none where
  go : (t : Bool) → t ≡ false → 0 < (if t then 0 else suc (first_sign xs))
  go true e = absurd (true≢false e)
  go false e = omega arith

-- the place before which nothing begins, and where something begins or the bytes end, is the first place
pub sign_is : (b : List ℕ) (at : ℕ) → at ≤ length b → ((k : ℕ) → k < at → begins_sign (drop k b) ≡ false)
    → (at < length b → begins_sign (drop at b) ≡ true) → first_sign b ≡ at
sign_is [] at l none here = omega (arith, l)
sign_is (x ∷ xs) zero l none here = go (begins_sign (x ∷ xs)) (here (omega arith)) where
  go : (t : Bool) → t ≡ true → (if t then 0 else suc (first_sign xs)) ≡ 0
  go true e = refl
  go false e = absurd (true≢false (sym e))
sign_is (x ∷ xs) (suc at) l none here =
    go (begins_sign (x ∷ xs)) (none 0 (omega arith))
    (sign_is xs at (omega (arith, l)) (λ k m. none (suc k) (omega (arith, m))) (λ m. here (omega (arith, m))))
  where
    go : (t : Bool) → t ≡ false → first_sign xs ≡ at → (if t then 0 else suc (first_sign xs)) ≡ suc at
    go true e later = absurd (true≢false e)
    go false e later = ap suc later
