-- Which bytes hexadecimal text spells, and which text is rejected. Digits are read in pairs, and white space is
-- ignored.
use Rattle.std.specs.Prelude.{◌≡◌, ℕ, ◌+◌, ◌*◌, ◌==◌, ◌||◌, Bool, if◌then◌else◌, List, [], ◌∷◌, Some, ◌<◌, ◌≤◌, ◌⊎◌}
use Rattle.std.specs.Prelude.{true, Option, length}
use Rattle.hex.specs.Hex.{hex_digit_value}
use Rattle.fv_base.specs.Words.{outer_fault, GivesAll, StopsWithin, volume_limit}
use Rattle.fv_base.specs.declared.fault.Fault.{Fault}
use Rattle.fv_base.specs.declared.fault.FaultKind.TheVariants as kinds

-- whether a character is a tab, a line feed, a carriage return or a space
abbrev pub is_space : ℕ → Bool
is_space c = (c == 9) || ((c == 10) || ((c == 13) || (c == 32)))

-- the text without its white space
abbrev pub squeezed : List ℕ → List ℕ
squeezed [] = []
squeezed (c ∷ cs) = if is_space c then squeezed cs else (c ∷ squeezed cs)

-- the digits, in upper or lower case, spell the bytes: two digits for each byte, the high digit first
abbrev pub DigitsSpell : List ℕ → List ℕ → Type 0
DigitsSpell [] bytes = bytes ≡ []
DigitsSpell (h ∷ []) bytes = ⊥
DigitsSpell (h ∷ l ∷ ds) bytes =
    (high : ℕ) × (low : ℕ) × (rest : List ℕ) × (hex_digit_value h ≡ Some high) × (hex_digit_value l ≡ Some low)
    × (bytes ≡ (high * 16 + low) ∷ rest) × DigitsSpell ds rest

-- the maximum length of the hexadecimal text that a run reads, in bytes: two digits, and as much white space, for each
-- byte of a volume
abbrev pub text_limit : ℕ
text_limit = 1073741824

-- hexadecimal text of at most `text_limit` bytes was read to its end, and its digits spell the input, which is not
-- longer than a volume may be
pub record SpellsWhole (old new : Option (List ℕ)) (input : List ℕ) : Type 0 where
  pub text : List ℕ
  pub gives : GivesAll old new text
  pub short : length text ≤ text_limit
  pub spells : DigitsSpell (squeezed text) input
  pub small : length input ≤ volume_limit

-- why a complete text is rejected: ReadFault at 0, if the text, without its white space, is not an even number of
-- digits; Length at the limit of a volume, if it spells more bytes than that
abbrev pub TextFault : List ℕ → Fault → Type 0
TextFault text fault =
    (((bytes : List ℕ) → DigitsSpell (squeezed text) bytes → ⊥) × (fault ≡ outer_fault kinds.ReadFault 0))
    ⊎ ((bytes : List ℕ) × DigitsSpell (squeezed text) bytes × (volume_limit < length bytes)
    × (fault ≡ outer_fault kinds.Length volume_limit))

-- reading hexadecimal text stopped with this fault, and if the fault is ReadFault, the port's error flag is set; or the
-- text was read to its end, and is rejected with this fault
pub record TextStops (old new : Option (List ℕ)) (erred : Bool) (fault : Fault) : Type 0 where
  pub cause : (StopsWithin text_limit old new fault × (fault.kind ≡ kinds.ReadFault → erred ≡ true))
      ⊎ ((text : List ℕ) × GivesAll old new text × (length text ≤ text_limit) × TextFault text fault)
