-- The rows that a walk over a volume has left, level by level (PI specification, volume 3, sections 3.2.1, 3.2.3 and
-- 3.2.4).
use Rattle.std.specs.Prelude.{ℕ, ◌+◌, ◌*◌, ◌<◌, ◌≤◌, ◌^◌, List, [], ◌∷◌, ◌++◌, length, map}
use Rattle.std.specs.List.{AllByRecursion}
use Rattle.fv_section.specs.Words.{FrameForm}
use Rattle.fv_tree.specs.Words.{FileForm, File, MeansFile, MeansSection, Section, Stream, Denotes, Volume}
use Rattle.fv_rows.specs.TreeRows.{NodeMeaning, VolumeNode, FileNode, SectionNode, TreeRow, rows_in_body}
use Rattle.fv_rows.specs.TreeRows.{rows_in_content, rows_of_files}
use Rattle.fv_rows.specs.declared.tree_walk.Parts.{Parts}
use Rattle.fv_rows.specs.declared.tree_walk.Parts.TheVariants as helds
use Rattle.fv_rows.specs.declared.tree_walk.Level.{Level}
use Rattle.fv_rows.specs.declared.tree_walk.Part.{Part}
use Rattle.fv_rows.specs.declared.tree_walk.Part.TheVariants as kinds
use Rattle.fv_rows.specs.declared.tree_walk.Row.{Row}

-- the meaning of a part
abbrev pub part_node : Part → NodeMeaning
part_node (kinds.Volume v) = VolumeNode v.now
part_node (kinds.File f) = FileNode f.now
part_node (kinds.Section s) = SectionNode s

-- the row, with the meaning of its part
abbrev pub row_of : Row → TreeRow
row_of r = record { depth = r.depth; nesting = r.nesting; number = r.number; node = part_node r.part }

-- the meanings of some parts, in order
abbrev pub nodes_of : Parts → List NodeMeaning
nodes_of helds.Nothing = []
nodes_of (helds.Volume v) = VolumeNode v.now ∷ []
nodes_of (helds.Files fs) = map FileNode fs.now
nodes_of (helds.Sections ss) = map SectionNode ss.0

-- the number of sections around the contents of a part that has this number of sections around it
abbrev pub nesting_inside : ℕ → NodeMeaning → ℕ
nesting_inside nesting (VolumeNode v) = nesting
nesting_inside nesting (FileNode f) = nesting
nesting_inside nesting (SectionNode s) = nesting + 1

-- the rows of the contents of a part
abbrev pub rows_inside : (depth nesting : ℕ) → NodeMeaning → List TreeRow
rows_inside depth nesting (VolumeNode (Volume h files)) = rows_of_files depth nesting 0 files
rows_inside depth nesting (FileNode (File name kind attributes content)) = rows_in_content depth nesting content
rows_inside depth nesting (SectionNode (Section kind extended body)) = rows_in_body depth nesting body

-- the rows of some parts in the same part, each with the rows of its contents; the first part has this number
abbrev pub rows_of_nodes : (depth nesting number : ℕ) → List NodeMeaning → List TreeRow
rows_of_nodes depth nesting number [] = []
rows_of_nodes depth nesting number (node ∷ nodes) =
    record { depth = depth; nesting = nesting; number = number; node = node }
    ∷ (rows_inside (depth + 1) (nesting_inside nesting node) node ++ rows_of_nodes depth nesting (number + 1) nodes)

-- the rows that are left in some levels; the first level is at this depth. The last level is the innermost, and its
-- rows come first
abbrev pub rows_left_in : ℕ → List Level → List TreeRow
rows_left_in depth [] = []
rows_left_in depth (l ∷ levels) = rows_left_in (depth + 1) levels ++ rows_of_nodes depth l.nesting l.number (nodes_of l.parts)

-- groups and volumes in a part at this depth nest only so deep that all rows in the part are at a depth below 27
abbrev pub PartNestsAt : ℕ → NodeMeaning → Type 0
PartNestsAt depth (VolumeNode v) = (n : ℕ) × (depth + 3 * n ≤ 24) × (b : List ℕ) × Denotes n b v
PartNestsAt depth (FileNode f) = (n : ℕ) × (depth + 3 * n ≤ 25) × (form : FileForm) × MeansFile (Stream n) form f
PartNestsAt depth (SectionNode s) = (n : ℕ) × (depth + 3 * n ≤ 26) × (f : FrameForm) × MeansSection n f s

-- the parts of a level are at this depth, their numbers are below 2 ^ 63, and the number of sections around them is at
-- most the depth
abbrev pub FitsAt : ℕ → Level → Type 0
FitsAt depth l =
    AllByRecursion (PartNestsAt depth) (nodes_of l.parts) × (l.number + length (nodes_of l.parts) < 2 ^ 63) × (l.nesting ≤ depth)

-- the first level is at this depth, and each further level is one deeper
abbrev pub AreRowLevels : ℕ → List Level → Type 0
AreRowLevels depth [] = Unit {0}
AreRowLevels depth (l ∷ levels) = FitsAt depth l × AreRowLevels (depth + 1) levels
