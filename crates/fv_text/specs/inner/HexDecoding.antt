-- How hexadecimal text is decoded, piece after piece.
use Rattle.std.specs.Prelude.{◌≡◌, ℕ, ◌+◌, ◌*◌, Bool, List, [], ◌∷◌, ◌++◌, ◌<◌, ◌≤◌, true, false, take, length, vec_len}
use Rattle.std.specs.Option.{unwrap_or}
use Rattle.hex.specs.Hex.{hex_digit_value}
use Rattle.fv_text.specs.HexIn.{squeezed, DigitsSpell}
use Rattle.fv_base.specs.Words.{volume_limit}
use Rattle.fv_text.specs.declared.hex_text.Decoder.{Decoder}

-- the value of a digit, in upper or lower case, or 16 if the character is not a digit
abbrev pub value_or_16 : ℕ → ℕ
value_or_16 d = unwrap_or (hex_digit_value d) 16

-- the number is the value of a digit
abbrev pub IsNibble : ℕ → Type 0
IsNibble v = v < 16

-- the bytes that pairs of values make, the high value of a pair first
abbrev pub joined_pairs : List ℕ → List ℕ
joined_pairs [] = []
joined_pairs (h ∷ []) = []
joined_pairs (h ∷ l ∷ vs) = (h * 16 + l) ∷ joined_pairs vs

-- the characters spell no bytes, whatever follows them
abbrev pub SpellsNothing : List ℕ → Type 0
SpellsNothing digits = (after bytes : List ℕ) → DigitsSpell (digits ++ after) bytes → ⊥

-- the digits, except the digits that wait, spell bytes. The decoder holds these bytes, or (`is_long`) they are more
-- than a volume may have
pub record HoldsDigits (is_long : Bool) (held waiting digits : List ℕ) : Type 0 where
  pub decoded : List ℕ
  pub bytes : List ℕ
  pub joined : digits ≡ decoded ++ waiting
  pub reads : DigitsSpell decoded bytes
  pub kept : is_long ≡ false → held ≡ bytes
  pub many : is_long ≡ true → volume_limit < length bytes

-- the decoder's state after this text: the text is wrong, whatever follows, or its digits, except a digit that waits,
-- spell the bytes that the decoder holds or more bytes than a volume may have. It holds at most the bytes of a volume,
-- and at most one digit waits
pub record Decodes (d : Decoder) (text : List ℕ) : Type 0 where
  pub wrong : d.is_wrong ≡ true → SpellsNothing (squeezed text)
  pub right : d.is_wrong ≡ false → HoldsDigits d.is_long d.bytes.items d.digits.items (squeezed text)
  pub small : vec_len d.bytes ≤ volume_limit
  pub waiting : vec_len d.digits ≤ 1

-- the digits spell bytes, which are added to the bytes that were held, unless there are then more bytes than a volume
-- may have
pub record AddsDigits (was_long is_long : Bool) (held holds digits : List ℕ) : Type 0 where
  pub more : List ℕ
  pub reads : DigitsSpell digits more
  pub kept : is_long ≡ false → (was_long ≡ false) × (holds ≡ held ++ more)
  pub many : is_long ≡ true → was_long ≡ false → volume_limit < length (held ++ more)

-- the decoder found its digits wrong, or it decoded them
pub record DecodesPairs (old new : Decoder) : Type 0 where
  pub wrong : new.is_wrong ≡ true → SpellsNothing old.digits.items
  pub right : new.is_wrong ≡ false → AddsDigits old.is_long new.is_long old.bytes.items new.bytes.items old.digits.items

-- the text, without its white space, was put into a room from `start` to `end`, and needs no more space than the whole
-- text
pub record IsPutKept (text : List ℕ) (start : ℕ) (old new : List ℕ) (end : ℕ) : Type 0 where
  pub put : take end new ≡ take start old ++ squeezed text
  pub within : end ≤ start + length text
  pub len : length new ≡ length old
