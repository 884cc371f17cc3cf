-- GUIDs as text (UEFI specification, appendix A).
use Rattle.std.specs.Prelude.{ℕ, ◌+◌, ◌-◌, ◌/◌, ◌%◌, nat_lt, List, [], ◌∷◌, ◌++◌, map, slice_index, Option}
use Rattle.std.specs.Prelude.{option_map, if◌then◌else◌}
use Rattle.fv_base.specs.declared.guid.Guid.{Guid}
use Rattle.uuid.specs.Parts.{swap_fields}
use Rattle.uuid.specs.Text.{parsed}

-- the character code of a lower-case hexadecimal digit. 48 is the code of `0`, and 97 is the code of `a`
abbrev pub digit : ℕ → ℕ
digit d = if nat_lt d 10 then 48 + d else 97 + d - 10

-- the hexadecimal digits of bytes, two for each byte
abbrev pub digits : List ℕ → List ℕ
digits [] = []
digits (b ∷ bs) = digit (b / 16 % 16) ∷ digit (b % 16) ∷ digits bs

-- the hexadecimal digits of the bytes at these offsets, in the order of the offsets
abbrev pub digits_at : List ℕ → List ℕ → List ℕ
digits_at places b = digits (map (slice_index b) places)

-- the text of a GUID, 8-4-4-4-12 digits: the three numbers, most significant byte first, then the last eight bytes in
-- order. In the definition, 45 is the code of a hyphen
unfoldable pub guid_text : List ℕ → List ℕ
guid_text b =
    digits_at (3 ∷ 2 ∷ 1 ∷ 0 ∷ []) b ++ 45 ∷ digits_at (5 ∷ 4 ∷ []) b ++ 45 ∷ digits_at (7 ∷ 6 ∷ []) b
    ++ 45 ∷ digits_at (8 ∷ 9 ∷ []) b ++ 45 ∷ digits_at (10 ∷ 11 ∷ 12 ∷ 13 ∷ 14 ∷ 15 ∷ []) b

-- the GUID that a text spells, if any: 32 digits, or 8-4-4-4-12 digits, which may be in braces or after `urn:uuid:`. The
-- digits and `urn:uuid:` may be of either case. A UUID stores its first three fields with the most significant byte
-- first. The `uuid` crate reads a text in these four forms only
abbrev pub guid_read : List ℕ → Option Guid
guid_read text = option_map (λ u. record { bytes = swap_fields u }) (parsed text)
