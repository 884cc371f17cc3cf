-- The tree of a volume: the volume, its files and their sections, and in the same way each volume that a section holds (PI
-- specification, volume 3, sections 3.2.1, 3.2.3 and 3.2.4).
use Rattle.std.specs.Prelude.{ℕ, ◌+◌, ◌==◌, ◌&&◌, not, if◌then◌else◌, Bool, List, [], ◌∷◌, length, Option, Some, None}
use Rattle.fv_tree.specs.Words.{Meaning}
use Rattle.fv_rows.specs.Words.{NodeMeaning, parts_in, TreeRow as Row, tree_rows as rows_of}

-- the parent number of the first row, which no row holds: 2 ^ 64 - 1
abbrev pub no_parent : ℕ
no_parent = 18446744073709551615

-- a part in the tree: the number of the row that holds it, the number of rows around it, its number among the parts
-- that its parent holds, counted from 0, and the part itself
pub record NodeRow : Type 0 where
  pub parent : ℕ
  pub depth : ℕ
  pub number : ℕ
  pub node : NodeMeaning

-- the number of the last of the preceding rows whose depth is one less than `depth`, or 0 if there is no such row.
-- `before` contains the depths of the preceding rows, in reverse order
abbrev pub last_above : (depth : ℕ) (before : List ℕ) → ℕ
last_above depth [] = 0
last_above depth (d ∷ before) = if d + 1 == depth then length before else last_above depth before

-- the number of the row that holds a row of this depth. No row holds a row of depth 0
abbrev pub parent_of : (depth : ℕ) (before : List ℕ) → ℕ
parent_of depth before = if depth == 0 then no_parent else last_above depth before

-- the rows with their parents. `before` contains the depths of the rows that precede them, in reverse order
abbrev pub with_parents : (before : List ℕ) → List Row → List NodeRow
with_parents before [] = []
with_parents before (r ∷ rows) =
    record { parent = parent_of r.depth before; depth = r.depth; number = r.number; node = r.node }
    ∷ with_parents (r.depth ∷ before) rows

-- all rows of a volume. The first row is the volume itself, and has no parent
abbrev pub node_rows : Meaning → List NodeRow
node_rows m = with_parents [] (rows_of m)

-- ---- the parts that a part holds

-- the rows of the parts that one row holds, without the rows of the parts inside them
abbrev pub rows_of_parts : (parent depth number : ℕ) → List NodeMeaning → List NodeRow
rows_of_parts parent depth number [] = []
rows_of_parts parent depth number (node ∷ nodes) =
    record { parent = parent; depth = depth; number = number; node = node } ∷ rows_of_parts parent depth (number + 1) nodes

-- the rows of the parts that row n holds. There are none if the tree has no row n
abbrev pub rows_held : ℕ → Option NodeRow → List NodeRow
rows_held n None = []
rows_held n (Some r) = rows_of_parts n (r.depth + 1) 0 (parts_in r.node)

-- no row holds this row (`is_first`), and row n holds this row (`is_held_by`)
abbrev pub is_first : NodeRow → Bool
is_first r = r.depth == 0

abbrev pub is_held_by : ℕ → NodeRow → Bool
is_held_by n r = not (is_first r) && (r.parent == n)
