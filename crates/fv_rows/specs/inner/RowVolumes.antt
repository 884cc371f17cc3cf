-- The rows that follow a row, and the volumes among some rows.
use Rattle.std.specs.Prelude.{◌≡◌, ◌+◌, ℕ, List, [], ◌∷◌, ◌++◌, map}
use Rattle.fv_tree.specs.Words.{Inside}
use Rattle.fv_rows.specs.TreeRows.{NodeMeaning, VolumeNode, FileNode, SectionNode, TreeRow}
use Rattle.fv_rows.specs.RowWalks.{nesting_inside, rows_inside}

-- each of these rows is followed by the rows of its contents
abbrev pub Followed : List TreeRow → Type 0
Followed [] = Unit {0}
Followed (r ∷ rows) = ((more : List TreeRow) × (rows ≡ rows_inside (r.depth + 1) (nesting_inside r.nesting r.node) r.node ++ more)) × Followed rows

-- the same volumes, n levels deeper
abbrev pub deeper_by : ℕ → List Inside → List Inside
deeper_by n vs = map (λ v. record { depth = v.depth + n; volume = v.volume }) vs

-- the part as a volume with this depth, if it is a volume
abbrev pub volume_at : ℕ → NodeMeaning → List Inside
volume_at depth (VolumeNode v) = record { depth = depth; volume = v } ∷ []
volume_at depth (FileNode f) = []
volume_at depth (SectionNode s) = []

-- the volumes among some rows. The depth of a volume is the number of sections around it
abbrev pub volumes_of : List TreeRow → List Inside
volumes_of [] = []
volumes_of (r ∷ rows) = volume_at r.nesting r.node ++ volumes_of rows
