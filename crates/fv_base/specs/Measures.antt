-- Further definitions about bytes and numbers that contracts cite: a sum, a test that all bytes have one value,
-- alignments, and a limit (PI specification, volume 3, section 3.2.3.1).
use Rattle.std.specs.List.{list_all}
use Rattle.std.specs.Prelude.{ℕ, ◌%◌, List, sum, ◌≡◌, ◌==◌, Bool, ◌^◌, ◌≤◌}

-- the maximum length of a file's data in bytes: the maximum length of a volume, less the 32 bytes of a large header.
-- The code has no constant for it
abbrev pub data_limit : ℕ
data_limit = 268435424

-- the plain sum of the bytes, modulo 256
abbrev pub sum8_of : List ℕ → ℕ
sum8_of bs = sum bs % 256

-- whether every byte of the list is `byte`
unfoldable pub all_are : ℕ → List ℕ → Bool
all_are byte xs = list_all (λ x. x == byte) xs

-- the number is a power of two, at most 2 ^ 24
abbrev pub IsAlignment : ℕ → Type 0
IsAlignment n = (k : ℕ) × (k ≤ 24) × (n ≡ 2 ^ k)
