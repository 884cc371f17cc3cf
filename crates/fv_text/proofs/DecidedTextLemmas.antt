-- Digits spell bytes, or they spell none: they are read pair by pair. So a text is accepted or rejected, and never both.
use Rattle.std.proofs.Common.{◌≡◌, ◌⊎◌, ◌≤◌, ℕ, ◌+◌, ◌*◌, [], ◌∷◌, List, length, refl, sym, ◌∙◌, arith, inl, inr, Option, None, Some}
use Rattle.fv_base.proofs.Laws.{cases_lt, outer_fault, volume_limit}
use Rattle.fv_base.specs.declared.fault.Fault.{Fault}
use Rattle.hex.specs.Hex.{hex_digit_value}
use Rattle.fv_text.specs.Words.{DigitsSpell, TextFault, squeezed}
use Rattle.fv_text.proofs.HexDigitLemmas.{reads_count}
use Rattle.fv_base.specs.declared.fault.FaultKind.TheVariants as kinds

-- the digits spell bytes, or none
abbrev Spelled : List ℕ → Type 0
Spelled digits = ((bytes : List ℕ) × DigitsSpell digits bytes) ⊎ ((bytes : List ℕ) → DigitsSpell digits bytes → ⊥)

pair : (h l : ℕ) (digits : List ℕ) → Spelled digits → Spelled (h ∷ l ∷ digits)
pair h l digits rest = go (hex_digit_value h) (hex_digit_value l) refl refl rest where
  go : (x y : Option ℕ) → hex_digit_value h ≡ x → hex_digit_value l ≡ y → Spelled digits → Spelled (h ∷ l ∷ digits)
  go None y is_x is_y rest = inr (λ bytes p. let no = sym is_x ∙ p.3 in cc)
  go (Some high) None is_x is_y rest = inr (λ bytes p. let no = sym is_y ∙ p.4 in cc)
  go (Some high) (Some low) is_x is_y (inl (bytes, p)) = inl ((high * 16 + low) ∷ bytes, (high, low, bytes, is_x, is_y, refl, p))
  go (Some high) (Some low) is_x is_y (inr none) = inr (λ bytes p. none p.2 p.6)

digits_decided : (digits : List ℕ) → Spelled digits
digits_decided [] = inl ([], refl)
digits_decided (h ∷ []) = inr (λ bytes p. p)
digits_decided (h ∷ l ∷ digits) = pair h l digits (digits_decided digits)

pub text_decided : (text : List ℕ)
    → ((bytes : List ℕ) × DigitsSpell (squeezed text) bytes × (length bytes ≤ volume_limit)) ⊎ ((f : Fault) × TextFault text f)
text_decided text = elim (digits_decided (squeezed text)) [
  | inr none ↦ inr (outer_fault kinds.ReadFault 0, inl (none, refl))
  | inl (bytes, spelled) ↦ elim (cases_lt volume_limit (length bytes)) [
    | inl long ↦ inr (outer_fault kinds.Length volume_limit, inr (bytes, spelled, long, refl))
    | inr short ↦ inl (bytes, spelled, short)
  ]
]

pub text_never : (text bytes : List ℕ) (f : Fault) → DigitsSpell (squeezed text) bytes → length bytes ≤ volume_limit → TextFault text f → ⊥
text_never text bytes f spelled short (inl (none, is)) = none bytes spelled
text_never text bytes f spelled short (inr (other, spelled', long, is)) =
    omega (arith, short, long, reads_count (squeezed text) bytes spelled, reads_count (squeezed text) other spelled')
