-- Extracted parts as C receives them: a volume, the data of a file, or the body of a section (PI specification, volume
-- 3, sections 3.2.1, 3.2.3 and 3.2.4).
use Rattle.std.specs.Prelude.{◌≡◌, ◌≤◌, ℕ, List, length, Some, slice_get}
use Rattle.fv_base.specs.declared.fault.Fault.{Fault}
use Rattle.fv_canon.specs.Words.{IsImage, IsData, IsBodyImage, FirstUnplaced}
use Rattle.fv_tree.specs.Words.{Inside, volumes_in, volumes_in_body, volumes_in_content}
use Rattle.fv_tree.specs.Words.{content_of, body_of}
use Rattle.fv_rows.specs.Words.{NodeMeaning, VolumeNode, FileNode, SectionNode, TreeRow}
use Rattle.fv_c.specs.ReadInputs.{HasParts}
use Rattle.fv_c.specs.declared.input.Form.{Form}

-- the bytes are the part as the canonical image of its volume contains it: the canonical image of a volume, the data of
-- a file, or the body of a section
abbrev pub IsNodeImage : NodeMeaning → List ℕ → Type 0
IsNodeImage (VolumeNode m) bytes = IsImage m bytes
IsNodeImage (FileNode f) bytes = IsData (content_of f) bytes
IsNodeImage (SectionNode s) bytes = IsBodyImage (body_of s) bytes

-- the volumes in the part; if the part is a volume, it is the first of them
abbrev pub volumes_in_node : NodeMeaning → List Inside
volumes_in_node (VolumeNode m) = volumes_in m
volumes_in_node (FileNode f) = volumes_in_content (content_of f)
volumes_in_node (SectionNode s) = volumes_in_body (body_of s)

-- there is a row with this number, and the bytes are its part
abbrev pub IsRowImage : ℕ → List TreeRow → List ℕ → Type 0
IsRowImage row rows bytes = (r : TreeRow) × (slice_get rows row ≡ Some r) × IsNodeImage r.node bytes

-- there is a row with this number, and f is the fault of the first volume in its part that does not fit. If the part is
-- a volume, it is the first. The depth of f counts only groups and opened volumes inside the part
abbrev pub IsRowUnfit : ℕ → List TreeRow → Fault → Type 0
IsRowUnfit row rows f = (r : TreeRow) × (slice_get rows row ≡ Some r) × FirstUnplaced (volumes_in_node r.node) 0 f

-- the input is a volume, or a stream of sections, with this row, and the bytes are the part of the row
abbrev pub ExtractsTo : Form → ℕ → List ℕ → List ℕ → Type 0
ExtractsTo form row input bytes = (rows : List TreeRow) × HasParts form input rows × IsRowImage row rows bytes

-- the input is a volume, or a stream of sections, that has no row with this number: it has at most `row` rows
abbrev pub HasNoRow : Form → ℕ → List ℕ → Type 0
HasNoRow form row input = (rows : List TreeRow) × HasParts form input rows × (length rows ≤ row)

-- the input is a volume, or a stream of sections, with this row, and f is the fault of the first volume in the row's
-- part that does not fit
abbrev pub HasUnfitRow : Form → ℕ → List ℕ → Fault → Type 0
HasUnfitRow form row input f = (rows : List TreeRow) × HasParts form input rows × IsRowUnfit row rows f
