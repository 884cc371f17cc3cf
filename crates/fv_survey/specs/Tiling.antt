-- The tiling of an image by the leaf rows of a survey.
use Rattle.std.specs.Prelude.{◌≡◌, ℕ, ◌+◌, nat_lt, List, [], ◌∷◌, Bool, true, false, if◌then◌else◌}
use Rattle.std.specs.List.{filter}
use Rattle.fv_survey.specs.declared.row.Row.{Row}
use Rattle.fv_survey.specs.declared.row.RowKind.{RowKind}
use Rattle.fv_survey.specs.declared.row.RowKind.TheVariants as kinds

-- a row of this kind is a leaf row: it contains no other rows
abbrev pub is_leaf : RowKind → Bool
is_leaf kinds.Volume = false
is_leaf kinds.File = false
is_leaf kinds.Section = false
is_leaf kinds.Lost = false
is_leaf _ = true

-- the rows lie one after another, without gaps and overlaps, from the offset `at` to the offset `to`
abbrev pub Follow : ℕ → ℕ → List Row → Type 0
Follow at to [] = at ≡ to
Follow at to (row ∷ rows) = (row.offset ≡ at) × Follow (at + row.length) to rows

-- the leaf rows among these rows
abbrev pub leaves_of : List Row → List Row
leaves_of rows = filter (λ row. is_leaf row.kind) rows

-- every one of the first n bytes is in exactly one leaf row, and the leaf rows are in the order of their offsets
abbrev pub Tile : ℕ → List Row → Type 0
Tile n rows = Follow 0 n (leaves_of rows)

-- the first of these rows that are deeper than `depth`: if a row of this depth comes before them, these are the rows
-- in it
abbrev pub rows_below : ℕ → List Row → List Row
rows_below depth [] = []
rows_below depth (row ∷ rows) = if nat_lt depth row.depth then row ∷ rows_below depth rows else []

-- the rows in each row are the deeper rows after it, up to the first row that is not deeper. Their leaf rows lie one
-- after another from the first byte of the row to its end. A leaf row contains no rows
abbrev pub TileEach : List Row → Type 0
TileEach [] = Unit {0}
TileEach (row ∷ rows) =
    (is_leaf row.kind ≡ false → Follow row.offset (row.offset + row.length) (leaves_of (rows_below row.depth rows)))
    × (is_leaf row.kind ≡ true → rows_below row.depth rows ≡ [])
    × TileEach rows
