-- Line feeds, numbers with a fixed count of hexadecimal digits, and the text in which bytes are written: as they are,
-- or as lines of hexadecimal digits.
use Rattle.std.specs.Prelude.{ℕ, ◌/◌, ◌%◌, List, [], ◌∷◌, ◌≡◌, ◌<◌, ◌++◌, Bool, true, false, length}
use Rattle.hex.specs.Hex.{encode_lower}
use Rattle.std.specs.List.{AllByRecursion, concat, flat_map}

-- the characters of a line feed
abbrev pub line_feed : List ℕ
line_feed = 10 ∷ []

-- the two lower-case hexadecimal digits of a number below 256
abbrev pub two_digits : ℕ → List ℕ
two_digits n = encode_lower (n ∷ [])

-- the four lower-case hexadecimal digits of a number below 65536
abbrev pub four_digits : ℕ → List ℕ
four_digits n = encode_lower (n / 256 ∷ n % 256 ∷ [])

-- a line: the lower-case digits of the bytes, and a line feed
abbrev pub line_text : List ℕ → List ℕ
line_text b = encode_lower b ++ line_feed

-- the last line, or nothing if it would be empty
abbrev pub last_text : List ℕ → List ℕ
last_text [] = []
last_text (x ∷ b) = line_text (x ∷ b)

-- the text has a line of lower-case digits for every 32 bytes, and a last line for the remaining bytes if there are
-- any; each line ends with a line feed
pub record IsHexText (bytes text : List ℕ) : Type 0 where
  pub lines : List (List ℕ)
  pub last : List ℕ
  pub joined : bytes ≡ concat lines ++ last
  pub whole_lines : AllByRecursion (λ b. length b ≡ 32) lines
  pub short : length last < 32
  pub text_is : text ≡ flat_map line_text lines ++ last_text last

-- the text is the bytes themselves (`false`), or lines of their digits (`true`)
abbrev pub ShowsBytes : Bool → List ℕ → List ℕ → Type 0
ShowsBytes false bytes text = text ≡ bytes
ShowsBytes true bytes text = IsHexText bytes text
