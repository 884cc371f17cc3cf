-- The row of the whole input, the rows of the parts that a row holds, and the rows that a call adds for them.
use Rattle.std.specs.Prelude.{◌≡◌, ◌≢◌, ℕ, ◌+◌, ◌<◌, ◌≤◌, List, [], ◌∷◌, ◌++◌, length, map, Option, Some, None, slice_get}
use Rattle.std.specs.List.{AllByRecursion}
use Rattle.fv_base.specs.Words.{IsBytes, depth_limit}
use Rattle.fv_section.specs.Words.{section_header_len}
use Rattle.fv_tree.specs.Words.{Accepted, BeginWithFiles, Meaning, Pairwise, SectionMeaning, Stream, bare_form, data_place, file_form, files_of}
use Rattle.fv_tree.specs.Words.{length_of, section_is_extended}
use Rattle.fv_tree.specs.declared.volume_files.LocatedFile.{LocatedFile}
use Rattle.fv_rows.specs.Words.{NodeMeaning, VolumeNode, FileNode, SectionNode, TreeRow as Row, rows_of_nodes}
use Rattle.fv_c.specs.TreeParts.{NodeRow, no_parent, parent_of, with_parents}
use Rattle.fv_c.specs.ReportedTree.{bytes_at, reported_node}
use Rattle.fv_c.specs.ReportedSections.{IsStreamNodeIn, stream_node}
use Rattle.fv_c.specs.declared.tree.FvNode.{FvNode}
use Rattle.fv_c.specs.declared.tree.Holder.{Holder}

-- the first row of a tree: the volume that the whole input is
abbrev pub whole_row : Meaning → NodeRow
whole_row m = record { parent = no_parent; depth = 0; number = 0; node = VolumeNode m }

abbrev pub whole_node : Meaning → FvNode
whole_node m = reported_node 0 0 (whole_row m) (VolumeNode m)

-- ---- a part that a row holds

-- if the row describes a volume, these are the files that are stored in it
abbrev pub RowHasFiles : (input : List ℕ) (row : FvNode) → List LocatedFile → Type 0
RowHasFiles input row stored =
    row.content ≡ 0 → BeginWithFiles (bytes_at input row) (map (file_form (bytes_at input row)) stored)

-- the row of part number n that the holder's row holds (`row_in`), and its report for C (`node_in`). `file_in` is the
-- report of a file, and `next` is the offset of a section in the bytes of the holder's row
abbrev pub row_in : Holder → (n : ℕ) → NodeMeaning → NodeRow
row_in h n node = record { parent = h.row; depth = h.depth; number = n; node = node }

abbrev pub file_in : Holder → Option LocatedFile → NodeRow → FvNode
file_in h None r = reported_node h.offset 0 r r.node
file_in h (Some l) r = reported_node (h.offset + data_place (bare_form l)) (bare_form l).head.header_len r r.node

abbrev pub node_in : Holder → (n next : ℕ) → NodeMeaning → FvNode
node_in h n next (VolumeNode m) = reported_node h.offset 0 (row_in h n (VolumeNode m)) (VolumeNode m)
node_in h n next (FileNode f) = file_in h (slice_get h.files.items n) (row_in h n (FileNode f))
node_in h n next (SectionNode s) =
    reported_node (h.offset + (next + section_header_len (section_is_extended s))) 0 (row_in h n (SectionNode s)) (SectionNode s)

-- if the part is a file, the holder has a file number n
abbrev pub HasFileNumber : Holder → (n : ℕ) → NodeMeaning → Type 0
HasFileNumber h n (VolumeNode m) = Unit {0}
HasFileNumber h n (FileNode f) = n < length h.files.items
HasFileNumber h n (SectionNode s) = Unit {0}

-- the part ends before this offset
abbrev pub EndsBefore : ℕ → FvNode → Type 0
EndsBefore most row = row.offset + row.length < most

-- ---- the rows of the parts that a row holds

-- the bytes of this row hold this part: they are this volume, a volume whose file number i is this file, or a stream
-- whose section number i is this section
abbrev pub HoldsAt : (input : List ℕ) (row : FvNode) (i : ℕ) → NodeMeaning → Type 0
HoldsAt input row i (VolumeNode m) =
    (row.content ≡ 3) × (row.length ≡ length_of m) × (IsBytes (bytes_at input row) → Accepted (bytes_at input row) m)
HoldsAt input row i (FileNode f) =
    (row.content ≡ 0) × (m : Meaning) × Accepted (bytes_at input row) m × (slice_get (files_of m) i ≡ Some f)
HoldsAt input row i (SectionNode s) =
    (row.content ≡ 2) × (ss : List SectionMeaning) × (tail : ℕ) × Stream depth_limit ss tail (bytes_at input row) × (slice_get ss i ≡ Some s)

-- the part of this row holds these parts. If `content` is 0, the bytes of the row are a volume. If `content` is 1, the
-- part of the row holds no part
pub record Contents (input : List ℕ) (row : FvNode) (nodes : List NodeMeaning) : Type 0 where
  pub volume : row.content ≡ 0 → (m : Meaning) × Accepted (bytes_at input row) m
  pub none : row.content ≡ 1 → nodes ≡ []
  pub part : (i : ℕ) (node : NodeMeaning) → slice_get nodes i ≡ Some node → HoldsAt input row i node

-- this is the row of the holder, which holds these parts
pub record HoldsIn (input : List ℕ) (h : Holder) (nodes : List NodeMeaning) (row : FvNode) : Type 0 where
  pub bytes : IsBytes input
  pub within : row.offset + row.length ≤ length input
  pub contents : Contents input row nodes
  pub offset : row.offset ≡ h.offset
  pub files : RowHasFiles input row h.files.items

-- the holder is one of these rows (`inner`). If it holds parts of depth 0, it is the row of the whole input, which is a
-- stream (`outer`)
pub record IsHolder (input : List ℕ) (rows : List FvNode) (h : Holder) (row : FvNode) : Type 0 where
  pub outer : h.depth ≡ 0 → row ≡ stream_node input
  pub inner : h.depth ≢ 0 → slice_get rows h.row ≡ Some row

-- the holder holds these parts
abbrev pub HoldsParts : (input : List ℕ) (rows : List FvNode) → Holder → List NodeMeaning → Type 0
HoldsParts input rows h nodes = (row : FvNode) × IsHolder input rows h row × HoldsIn input h nodes row

-- the depths of these rows, and then of the rows before them, the last row first
abbrev pub depths_after : List Row → List ℕ → List ℕ
depths_after [] before = before
depths_after (r ∷ rows) before = depths_after rows (r.depth ∷ before)

-- `new` are the rows `old` and the rows of these parts at this depth, each followed by the rows inside it. The row
-- `parent` holds the parts, and the first of them has this number. `before` are the depths of the rows `old`, the last
-- row first
pub record AreAdded (input : List ℕ) (parent depth number : ℕ) (nodes : List NodeMeaning) (old new : List FvNode) : Type 0 where
  pub more : List FvNode
  pub joined : new ≡ old ++ more
  pub deep : AllByRecursion (λ (row : FvNode). depth ≤ row.depth) more
  pub rows : (nesting : ℕ) (before : List ℕ) → length before ≡ length old → parent_of depth before ≡ parent
      → Pairwise (IsStreamNodeIn input new) more (with_parents before (rows_of_nodes depth nesting number nodes))
