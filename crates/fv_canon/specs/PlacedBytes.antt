-- Spans of bytes in a list of bytes that is erased elsewhere.
use Rattle.std.specs.Prelude.{◌≡◌, ℕ, ◌+◌, ◌<◌, ◌≤◌, List, length, take, drop, get_or}
use Rattle.std.specs.List.{AllByRecursion}

-- a span: bytes, and the offset of the first of them
pub record PlacedBytes : Type 0 where
  pub at : ℕ
  pub bytes : List ℕ

-- b contains the span at its offset
abbrev pub ContainsSpan : List ℕ → PlacedBytes → Type 0
ContainsSpan b p = (p.at + length p.bytes ≤ length b) × (take (length p.bytes) (drop p.at b) ≡ p.bytes)

-- the offset k lies in the span
abbrev pub IsIn : ℕ → PlacedBytes → Type 0
IsIn k p = (p.at ≤ k) × (k < p.at + length p.bytes)

-- b has `total` bytes and contains each span at its offset, and every byte outside the spans is erased
pub record ShowsPlaced (total erased : ℕ) (placed : List PlacedBytes) (b : List ℕ) : Type 0 where
  pub length_is : length b ≡ total
  pub contained : AllByRecursion (ContainsSpan b) placed
  pub rest : (k : ℕ) → k < total → AllByRecursion (λ p. IsIn k p → ⊥) placed → get_or b k 0 ≡ erased
