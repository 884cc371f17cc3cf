-- How a gap is split into pads, which bytes contain given spans, and how meanings and canonical images correspond.
use Rattle.std.specs.Prelude.{◌≡◌, ℕ, ◌+◌, ◌-◌, ◌<◌, ◌≤◌, List, [], ◌∷◌, ◌++◌, length, replicate, ◌%◌}
use Rattle.fv_base.specs.declared.flash.Polarity.{Polarity}
use Rattle.fv_canon.specs.Image.{IsImage}
use Rattle.fv_canon.specs.PlacedBytes.{PlacedBytes}
use Rattle.fv_canon.specs.StoredFiles.{pad_bytes, long_pad, gap_bytes}
use Rattle.fv_tree.specs.Words.{IsMeaning, Meaning}

-- the bytes from the offset e up to `total`: each span at its offset, and erased bytes everywhere else
abbrev pub painted : ℕ → ℕ → ℕ → List PlacedBytes → List ℕ
painted erased total e [] = replicate (total - e) erased
painted erased total e (p ∷ ps) =
    (replicate (p.at - e) erased ++ p.bytes) ++ painted erased total (p.at + length p.bytes) ps

-- the spans lie between the offsets e and `total`, in order, and do not overlap
abbrev pub InOrder : ℕ → ℕ → List PlacedBytes → Type 0
InOrder total e [] = e ≤ total
InOrder total e (p ∷ ps) = (e ≤ p.at) × InOrder total (p.at + length p.bytes) ps

-- a gap whose length is a multiple of 8 and at least 24 is one pad if it has at most 0xFFFFF8 bytes. Otherwise it is a
-- pad of `long_pad` bytes and then the pads of the rest, which has at least 256 bytes
abbrev pub PadsRule : Type 0
PadsRule =
    (polarity : Polarity) (gap : ℕ) → 24 ≤ gap → gap % 8 ≡ 0
    → (gap ≤ 0xfffff8 → gap_bytes polarity gap ≡ pad_bytes polarity gap)
    × (0xfffff8 < gap
    → (gap_bytes polarity gap ≡ pad_bytes polarity long_pad ++ gap_bytes polarity (gap - long_pad))
    × (256 ≤ gap - long_pad))

-- a meaning has at most one canonical image
abbrev pub OneImage : Type 0
OneImage = (m : Meaning) (image other : List ℕ) → IsImage m image → IsImage m other → image ≡ other

-- if two meanings have the same canonical image, and each is the meaning of some bytes, they are equal
abbrev pub OneMeaning : Type 0
OneMeaning = (m other : Meaning) (image : List ℕ) → IsMeaning m → IsMeaning other → IsImage m image
    → IsImage other image → other ≡ m
