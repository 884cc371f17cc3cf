-- The alignments of files (PI specification, volume 3, section 3.2.3.1).
use Rattle.std.specs.Prelude.{ℕ, ◌+◌, ◌*◌, ◌/◌, ◌%◌, List, [], ◌∷◌, slice_index}

-- the sixteen alignments in bytes: the first table, then the second
abbrev pub alignments : List ℕ
alignments =
    1 ∷ 16 ∷ 128 ∷ 512 ∷ 1024 ∷ 4096 ∷ 32768 ∷ 65536
    ∷ 131072 ∷ 262144 ∷ 524288 ∷ 1048576 ∷ 2097152 ∷ 4194304 ∷ 8388608 ∷ 16777216 ∷ []

-- the alignment in bytes that attribute bits select: bits 0x08, 0x10 and 0x20 are the alignment code, and bit 0x02
-- selects the second table
abbrev pub alignment_of : ℕ → ℕ
alignment_of attributes = slice_index alignments (attributes / 8 % 8 + 8 * (attributes / 2 % 2))
