-- The numbers that bytes spell. A list of bytes is a list of numbers below 256.
use Rattle.std.specs.Prelude.{ℕ, zero, suc, ◌+◌, ◌*◌, ◌/◌, ◌%◌, ◌<◌, List, [], ◌∷◌, take, drop, slice_index}

-- every item is a byte: a number below 256
abbrev pub IsBytes : List ℕ → Type 0
IsBytes b = (i : ℕ) → slice_index b i < 256

-- the number that the bytes spell, least significant byte first
abbrev pub le : List ℕ → ℕ
le [] = 0
le (b ∷ bs) = b + 256 * le bs

-- the lowest k bytes of a number, least significant byte first
abbrev pub le_bytes : ℕ → ℕ → List ℕ
le_bytes zero n = []
le_bytes (suc k) n = (n % 256) ∷ le_bytes k (n / 256)

-- the bytes of a field: `size` bytes from the offset `at` on
abbrev pub field : ℕ → ℕ → List ℕ → List ℕ
field at size b = take size (drop at b)

-- the number that a field holds, least significant byte first
abbrev pub le_at : ℕ → ℕ → List ℕ → ℕ
le_at at size b = le (field at size b)

-- the least multiple of 8 that is at least n
abbrev pub up_to_8 : ℕ → ℕ
up_to_8 n = (n + 7) / 8 * 8
