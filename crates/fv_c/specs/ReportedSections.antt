-- The rows of a stream of sections, as they are reported to C (PI specification, volume 3, section 3.2.4).
use Rattle.std.specs.Prelude.{◌≡◌, ◌≢◌, ◌≤◌, ◌⊎◌, ◌+◌, ℕ, List, [], length, replicate}
use Rattle.fv_base.specs.declared.fault.Fault.{Fault}
use Rattle.fv_canon.specs.Words.{FirstUnplaced}
use Rattle.fv_tree.specs.Words.{AcceptedStream, NotStream, Pairwise, SectionMeaning, sections_from, volumes_in_sections}
use Rattle.fv_rows.specs.Words.{SectionNode, TreeRow, rows_of_sections}
use Rattle.fv_c.specs.TreeParts.{NodeRow, no_parent, with_parents}
use Rattle.fv_c.specs.ReportedTree.{IsPartPlaced, IsSectionIn, reported_node}
use Rattle.fv_c.specs.declared.tree.FvNode.{FvNode}

-- all rows of a stream of these sections: the sections, and in the same way what is in groups and volumes among them. No
-- row holds the sections of the stream
abbrev pub section_rows : List SectionMeaning → List NodeRow
section_rows sections = with_parents [] (rows_of_sections 0 0 0 (sections_from sections))

-- the row that would hold the sections of the stream, which is the whole input. It is not one of the rows; only its
-- offset, its length and its content matter
abbrev pub stream_node : List ℕ → FvNode
stream_node input = record {
  offset = 0;
  length = length input;
  parent = no_parent;
  index = 0;
  depth = 0;
  kind = 0;
  content = 2;
  efi_type = 0;
  attributes = 0;
  header_length = 0;
  guid = replicate 16 0;
  file_system = 0;
  reserved = replicate 3 0;
}

-- `row` reports the row r of the stream: it has the fields of r, and its bytes are within the input. A row of depth 0 is
-- a section of the stream that the whole input is. The part of any other row lies where `IsPartPlaced` says
pub record IsStreamNodeIn (input : List ℕ) (rows : List FvNode) (row : FvNode) (r : NodeRow) : Type 0 where
  pub is : row ≡ reported_node row.offset row.header_length r r.node
  pub within : row.offset + row.length ≤ length input
  pub outer : row.depth ≡ 0 → (s : SectionMeaning) × (r.node ≡ SectionNode s) × IsSectionIn input (stream_node input) row s
  pub inner : row.depth ≢ 0 → IsPartPlaced input rows row r.node

-- the input is a stream of sections, and these are its rows
pub record HasSectionRows (input : List ℕ) (rows : List FvNode) : Type 0 where
  pub sections : List SectionMeaning
  pub tail : ℕ
  pub stream : AcceptedStream sections tail input
  pub nodes : Pairwise (IsStreamNodeIn input rows) rows (section_rows sections)

-- the same row, `depth` rows and `nesting` sections deeper
abbrev pub deeper_row : (depth nesting : ℕ) → TreeRow → TreeRow
deeper_row depth nesting r =
    record { depth = depth + r.depth; nesting = nesting + r.nesting; number = r.number; node = r.node }

-- ---- what is rejected

-- the input is a stream of sections, and f is the fault of the first volume in it that does not fit
abbrev pub HasUnfitVolume : List ℕ → Fault → Type 0
HasUnfitVolume input f =
    (sections : List SectionMeaning) × (tail : ℕ) × AcceptedStream sections tail input
    × FirstUnplaced (volumes_in_sections (sections_from sections)) 0 f

-- the input is rejected with the fault f: it is not a stream of sections, or a volume in it does not fit
abbrev pub RejectsSections : List ℕ → Fault → Type 0
RejectsSections input f = NotStream input f ⊎ HasUnfitVolume input f
