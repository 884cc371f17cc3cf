-- A hexadecimal numeral has no plus sign (`no_plus`), and one of at most two digits spells a byte (`small`).
use Rattle.std.proofs.Common.{◌≡◌, ◌==◌, ◌^◌, ◌<◌, ◌≤◌, ℕ, [], ◌∷◌, Bool, cond, true, false, refl, arith, eqb-true, List, drop, length}
use Rattle.fv_base.proofs.Laws.{IsNumeral, digits_value, without_leading_plus}

-- a hexadecimal numeral has no plus sign
pub no_plus : (text : List ℕ) → IsNumeral 16 text → without_leading_plus text ≡ text
no_plus [] h = refl
no_plus (d ∷ ds) h = go (d == 43) refl
  where
    go : (b : Bool) → (d == 43) ≡ b → drop (cond b 1 0) (d ∷ ds) ≡ d ∷ ds
    go false e = refl
    go true e = let plus = rw (eqb-true d 43 e) at h.1.0 in absurd (omega arith)

-- a hexadecimal numeral of at most two digits is below 256
pub small : (text : List ℕ) → IsNumeral 16 text → length text ≤ 2 → digits_value 16 text < 2 ^ 8
small [] h short = absurd (omega (arith, h.0))
small (a ∷ []) h short = omega (arith, h.1.0)
small (a ∷ b ∷ []) h short = let digits = h.1 in omega (arith, digits.0, digits.1.0)
small (a ∷ b ∷ d ∷ ds) h short = absurd (omega arith)
