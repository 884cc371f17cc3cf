-- The pairs of a block map (PI specification, volume 3, section 3.2.1.1, EFI_FV_BLOCK_MAP_ENTRY).
use Rattle.std.specs.Prelude.{ℕ, ◌*◌, List, [], ◌∷◌, ◌++◌, sum_by}
use Rattle.fv_base.specs.Words.{le, le_bytes}

-- the pairs of 4-byte numbers that the bytes contain, one pair for each 8 bytes; fewer than 8 bytes at the end are
-- ignored
abbrev pub pairs_of : List ℕ → List (ℕ × ℕ)
pairs_of (a ∷ b ∷ c ∷ d ∷ e ∷ f ∷ g ∷ h ∷ bs) = (le (a ∷ b ∷ c ∷ d ∷ []), le (e ∷ f ∷ g ∷ h ∷ [])) ∷ pairs_of bs
pairs_of _ = []

-- the bytes of the pairs, 8 for each pair
abbrev pub pairs_bytes : List (ℕ × ℕ) → List ℕ
pairs_bytes [] = []
pairs_bytes (p ∷ ps) = (le_bytes 4 p.0 ++ le_bytes 4 p.1) ++ pairs_bytes ps

-- the number of bytes in all blocks: a pair is a number of blocks and the size of each block in bytes
abbrev pub bytes_in : List (ℕ × ℕ) → ℕ
bytes_in blocks = sum_by (λ p. p.0 * p.1) blocks
