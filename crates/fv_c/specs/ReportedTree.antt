-- The tree of a volume, as it is reported to C, and where its parts lie in the input (PI specification, volume 3, sections
-- 3.2.1, 3.2.3 and 3.2.4).
use Rattle.std.specs.Prelude.{◌≡◌, ℕ, ◌+◌, ◌≤◌, ◌≢◌, List, length, Some, replicate, slice_get}
use Rattle.fv_base.specs.Words.{bytes_of, field, depth_limit}
use Rattle.fv_head.specs.Words.{header_len_of}
use Rattle.fv_section.specs.Words.{FrameForm, Splits, section_header_len}
use Rattle.fv_tree.specs.Words.{Accepted, Meaning, FileMeaning, ContentMeaning, Plain, Sectioned, SectionMeaning}
use Rattle.fv_tree.specs.Words.{BodyMeaning, Leaf, Group, Nested, Pairwise}
use Rattle.fv_tree.specs.Words.{FileForm, BeginWithFiles, MeansFile, MeansSection, Stream, body_place, data_place, body_len}
use Rattle.fv_tree.specs.Words.{body_of, content_of, data_len_of, length_of, head_of, file_kind_of, file_name_of}
use Rattle.fv_tree.specs.Words.{attributes_of, section_kind_of, section_is_extended}
use Rattle.fv_rows.specs.Words.{NodeMeaning, VolumeNode, FileNode, SectionNode}
use Rattle.fv_c.specs.ReportedHeaders.{volume_name}
use Rattle.fv_c.specs.Reports.{system_number}
use Rattle.fv_c.specs.TreeParts.{NodeRow, node_rows}
use Rattle.fv_c.specs.declared.tree.FvNode.{FvNode}

-- ---- a row

-- the number for the content of a file: 1 for plain bytes, 2 for sections
abbrev pub content_number : ContentMeaning → ℕ
content_number (Plain _) = 1
content_number (Sectioned _ _) = 2

-- the number for the body of a section: 1 for bytes, 2 for sections, 3 for a volume
abbrev pub body_number : BodyMeaning → ℕ
body_number (Leaf _) = 1
body_number (Group _ _) = 2
body_number (Nested _) = 3

-- the row for C of a part. Three arguments are not in the meaning of a part: the offset, the length of a file's header
-- (`stored`), and r, the row of the part in the tree. A volume is reported by all bits of Attributes, by FvName (16 zero
-- bytes without an extended header) and by its file system; a file by Type, by Attributes without
-- FFS_ATTRIB_LARGE_FILE and by Name; a section by Type. `length` is the length of the volume, of the file's data, or of
-- the section's body. `content` is 0 for files, 1 for bytes, 2 for sections, 3 for a volume
abbrev pub reported_node : (offset stored : ℕ) → NodeRow → NodeMeaning → FvNode
reported_node offset stored r (VolumeNode m) = record {
  offset = offset;
  length = length_of m;
  parent = r.parent;
  index = r.number;
  depth = r.depth;
  kind = 1;
  content = 0;
  efi_type = 0;
  attributes = (head_of m).attributes;
  header_length = header_len_of (head_of m);
  guid = volume_name (head_of m).ext;
  file_system = system_number (head_of m).file_system;
  reserved = replicate 3 0;
}
reported_node offset stored r (FileNode f) = record {
  offset = offset;
  length = data_len_of f;
  parent = r.parent;
  index = r.number;
  depth = r.depth;
  kind = 2;
  content = content_number (content_of f);
  efi_type = file_kind_of f;
  attributes = attributes_of f;
  header_length = stored;
  guid = bytes_of (file_name_of f);
  file_system = 0;
  reserved = replicate 3 0;
}
reported_node offset stored r (SectionNode s) = record {
  offset = offset;
  length = body_len (body_of s);
  parent = r.parent;
  index = r.number;
  depth = r.depth;
  kind = 3;
  content = body_number (body_of s);
  efi_type = section_kind_of s;
  attributes = 0;
  header_length = section_header_len (section_is_extended s);
  guid = replicate 16 0;
  file_system = 0;
  reserved = replicate 3 0;
}

-- ---- where it is

-- the bytes of the input that a row describes: the whole volume, the data of the file, or the body of the section
abbrev pub bytes_at : List ℕ → FvNode → List ℕ
bytes_at input row = field row.offset row.length input

-- `holder` is the row of a volume, and `row` is a file of this volume: the file with the number `index`. Its data are
-- at the row's offset, and the file has the meaning m
pub record IsFileIn (input : List ℕ) (holder row : FvNode) (m : FileMeaning) : Type 0 where
  pub files : List FileForm
  pub volume : BeginWithFiles (bytes_at input holder) files
  pub file : FileForm
  pub is : slice_get files row.index ≡ Some file
  pub offset : row.offset ≡ holder.offset + data_place file
  pub header : row.header_length ≡ file.head.header_len
  pub payload : bytes_at input row ≡ file.payload
  pub means : MeansFile (Stream depth_limit) file m

-- `holder` is the row of a file or of a group, and `row` is a section of its stream: the frame with the number `index`.
-- Its body is at the row's offset, and the section has the meaning s
pub record IsSectionIn (input : List ℕ) (holder row : FvNode) (s : SectionMeaning) : Type 0 where
  pub frames : List FrameForm
  pub tail : ℕ
  pub stream : Splits frames tail (bytes_at input holder)
  pub frame : FrameForm
  pub is : slice_get frames row.index ≡ Some frame
  pub offset : row.offset ≡ holder.offset + body_place frame
  pub body : bytes_at input row ≡ frame.body
  pub means : MeansSection depth_limit frame s

-- the parent of this row has the property P
abbrev pub Held : List FvNode → FvNode → (FvNode → Type 0) → Type 0
Held rows row P = (holder : FvNode) × (slice_get rows row.parent ≡ Some holder) × P holder

-- the part lies in the input at the row's offset, inside the part that holds it. If it is a volume, the bytes there are
-- a volume with this meaning: a volume that no row holds begins at offset 0 of the input, and any other volume begins
-- where the body of its section begins
abbrev pub IsPartPlaced : (input : List ℕ) (rows : List FvNode) (row : FvNode) → NodeMeaning → Type 0
IsPartPlaced input rows row (VolumeNode m) =
    Accepted (bytes_at input row) m × (row.depth ≡ 0 → row.offset ≡ 0)
    × (row.depth ≢ 0 → Held rows row (λ holder. row.offset ≡ holder.offset))
IsPartPlaced input rows row (FileNode f) = Held rows row (λ holder. IsFileIn input holder row f)
IsPartPlaced input rows row (SectionNode s) = Held rows row (λ holder. IsSectionIn input holder row s)

-- `row` reports the row r of the tree: it has the fields of r, its bytes are within the input, and its part lies there
-- (`IsPartPlaced`)
pub record IsNodeIn (input : List ℕ) (rows : List FvNode) (row : FvNode) (r : NodeRow) : Type 0 where
  pub is : row ≡ reported_node row.offset row.header_length r r.node
  pub within : row.offset + row.length ≤ length input
  pub placed : IsPartPlaced input rows row r.node

-- the input is a volume, and these are the rows of its tree
pub record HasTreeRows (input : List ℕ) (rows : List FvNode) : Type 0 where
  pub meaning : Meaning
  pub volume : Accepted input meaning
  pub nodes : Pairwise (IsNodeIn input rows) rows (node_rows meaning)
