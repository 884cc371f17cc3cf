-- The pieces of a volume's body.
use Rattle.std.specs.Prelude.{◌≡◌, ◌≤◌, ◌<◌, ◌%◌, ℕ, Bool, true, false}
use Rattle.fv_survey.specs.declared.pieces.Piece.{Piece}
use Rattle.fv_survey.specs.declared.pieces.Sort.{Sort}
use Rattle.fv_survey.specs.declared.pieces.Sort.TheVariants as sorts

-- a piece of this sort gets a row that contains other rows, with a row for its header
abbrev pub is_node : Sort → Bool
is_node sorts.File = true
is_node sorts.Pad = true
is_node sorts.Dead = true
is_node _ = false

-- the piece lies within the n bytes that are left: its header, its data and its filler follow one another, and it has a
-- multiple of 8 bytes, at least 8
pub record IsPiece (n : ℕ) (p : Piece) : Type 0 where
  pub header : p.header ≤ p.size
  pub size : p.size ≤ p.span
  pub within : p.span ≤ n
  pub some : 0 < p.span
  pub multiple : p.span % 8 ≡ 0
  pub headed : is_node p.sort ≡ true → 0 < p.header
