use Rattle.std.proofs.Common.{◌≡◌, ◌≢◌, ◌<◌, ◌++◌, ℕ, ◌∙◌, List, Result, Ok, Err, Some, ap, arith, codes, drop, inl, inr, sym}
use Rattle.fv_base.proofs.Laws.{digit_value}
use Rattle.fv_arguments.specs.Words.{IsAtWord, IsNumberWord, IsNumeralOf}
use Rattle.fv_arguments.specs.declared.words.WordFault.{WordFault}
use Rattle.fv_arguments.specs.inner.CommandWords.{ParsesOrFails}
use Rattle.fv_arguments.proofs.options.volume_offset.Goals as goal

-- a text that begins with `0x` is not a decimal number
not_decimal : (digits : List ℕ) (n : ℕ) → IsNumberWord 64 (codes "0x" ++ digits) n → ⊥
not_decimal digits n h = let second : digit_value 120 < 10 = h.0.1.1.0 in absurd (omega arith)

-- so an offset that begins with `0x` is read as the hexadecimal numeral after `0x`
hexadecimal_place : (text digits : List ℕ) (r : Result ℕ WordFault) → text ≡ codes "0x" ++ digits
    → ParsesOrFails (IsNumeralOf 16 64 digits) r → ParsesOrFails (λ n. IsAtWord (Some text) (Some n)) r
hexadecimal_place text digits (Ok n) is h = inr (digits, is, h)
hexadecimal_place text digits (Err f) is h = λ words n spells. elim spells [
  | inl number ↦ not_decimal digits n (rw is at number)
  | inr other ↦ h words n (rw (ap (drop 2) (sym other.1 ∙ is)) at other.2)
]

-- an offset that does not begin with `0x` is read as a decimal number
decimal_place : (text : List ℕ) (r : Result ℕ WordFault) → ((digits : List ℕ) → text ≢ codes "0x" ++ digits)
    → ParsesOrFails (IsNumberWord 64 text) r → ParsesOrFails (λ n. IsAtWord (Some text) (Some n)) r
decimal_place text (Ok n) lacks h = inl h
decimal_place text (Err f) lacks h = λ words n spells. elim spells [
  | inl number ↦ h words n number
  | inr other ↦ lacks other.0 other.1
]

pub returns-in-Some : goal.returns-in-Some
returns-in-Some c =
    let rest = c.in-Some.ensures.cases in
    hexadecimal_place c.args.text.now c.in-Some.digits.now _ (rest.1.1 ∙ ap (λ d. codes "0x" ++ d) (sym rest.2)) c.hexadecimal.ensures

pub returns-in-None : goal.returns-in-None
returns-in-None c = decimal_place c.args.text.now _ c.in-None.ensures.cases c.decimal.ensures
