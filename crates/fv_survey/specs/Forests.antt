-- The rows of a survey as a forest: which rows are in which row.
use Rattle.std.specs.Prelude.{◌≡◌, ℕ, ◌+◌, ◌<◌, List, [], ◌∷◌, ◌++◌, true, false}
use Rattle.fv_survey.specs.declared.row.Row.{Row}
use Rattle.fv_survey.specs.Tiling.{is_leaf}

-- a forest is empty, or it begins with a tree: a row, the rows in this row, and then the rows after it
pub data Forest : Type 0 where
  Bare : Forest
  Tree : Row → Forest → Forest → Forest

-- the rows of a forest in preorder: each row comes before the rows in it, and these come before the rows after it
abbrev pub rows_of : Forest → List Row
rows_of Bare = []
rows_of (Tree row below after) = row ∷ (rows_of below ++ rows_of after)

-- the trees of the forest lie one after another from the offset `from` to the offset `to`, and the rows in a row lie in
-- the same way from its first byte to its end. Each row has at least one byte. A leaf row contains no rows. Rows that
-- are in no row have this depth, and the rows in a row are one deeper than it
abbrev pub Nest : ℕ → ℕ → ℕ → Forest → Type 0
Nest depth from to Bare = from ≡ to
Nest depth from to (Tree row below after) =
    (row.depth ≡ depth) × (row.offset ≡ from) × (0 < row.length)
    × (is_leaf row.kind ≡ true → below ≡ Bare)
    × (is_leaf row.kind ≡ false → Nest (depth + 1) from (from + row.length) below)
    × Nest depth (from + row.length) to after

-- these rows are the rows of the forest in preorder, and its trees lie one after another over the first n bytes
abbrev pub IsForest : ℕ → List Row → Forest → Type 0
IsForest n rows forest = (rows ≡ rows_of forest) × Nest 0 0 n forest
