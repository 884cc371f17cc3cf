-- The sum that the checksum of a volume header uses (PI specification, volume 3, section 3.2.1.1).
use Rattle.std.specs.Prelude.{ℕ, ◌%◌, List, [], ◌∷◌, sum}
use Rattle.fv_base.specs.Value.{le}

-- the little-endian 16-bit words of the bytes; a single last byte is not part of a word
abbrev pub words_of : List ℕ → List ℕ
words_of [] = []
words_of (a ∷ []) = []
words_of (a ∷ b ∷ bs) = le (a ∷ b ∷ []) ∷ words_of bs

-- the plain sum of the 16-bit words, modulo 65536
abbrev pub sum16_of : List ℕ → ℕ
sum16_of bs = sum (words_of bs) % 65536
