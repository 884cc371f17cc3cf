-- The rows of a volume: the volume, its files and their sections, and in the same way each volume that a section contains
-- (PI specification, volume 3, sections 3.2.1, 3.2.3 and 3.2.4).
use Rattle.std.specs.Prelude.{ℕ, ◌+◌, List, [], ◌∷◌, ◌++◌, map}
use Rattle.fv_tree.specs.Words.{Meaning, Volume, FileMeanings, NoFiles, MoreFiles, FileMeaning, File, ContentMeaning}
use Rattle.fv_tree.specs.Words.{Plain, Sectioned, SectionMeanings, NoSections, MoreSections, SectionMeaning, Section}
use Rattle.fv_tree.specs.Words.{BodyMeaning, Leaf, Group, Nested, body_of, content_of, files_of, sections_list}
use Rattle.fv_tree.specs.Words.{sections_in_data}

-- a part: a volume, a file or a section
pub data NodeMeaning : Type 0 where
  VolumeNode : Meaning → NodeMeaning
  FileNode : FileMeaning → NodeMeaning
  SectionNode : SectionMeaning → NodeMeaning

-- a part in the tree: the number of parts around it, the number of sections among these, its number in the part that
-- contains it (counted from 0), and the part itself
pub record TreeRow : Type 0 where
  pub depth : ℕ
  pub nesting : ℕ
  pub number : ℕ
  pub node : NodeMeaning

-- the parts in preorder: each part is followed by its contents
abbrev mutual
  pub rows_of_volume : (depth nesting : ℕ) → Meaning → List TreeRow
  rows_of_volume depth nesting (Volume h files) =
      record { depth = depth; nesting = nesting; number = 0; node = VolumeNode (Volume h files) }
      ∷ rows_of_files (depth + 1) nesting 0 files

  pub rows_of_files : (depth nesting number : ℕ) → FileMeanings → List TreeRow
  rows_of_files depth nesting number NoFiles = []
  rows_of_files depth nesting number (MoreFiles f fs) =
      rows_of_file depth nesting number f ++ rows_of_files depth nesting (number + 1) fs

  pub rows_of_file : (depth nesting number : ℕ) → FileMeaning → List TreeRow
  rows_of_file depth nesting number (File name kind attributes content) =
      record { depth = depth; nesting = nesting; number = number; node = FileNode (File name kind attributes content) }
      ∷ rows_in_content (depth + 1) nesting content

  pub rows_in_content : (depth nesting : ℕ) → ContentMeaning → List TreeRow
  rows_in_content depth nesting (Plain b) = []
  rows_in_content depth nesting (Sectioned sections tail) = rows_of_sections depth nesting 0 sections

  pub rows_of_sections : (depth nesting number : ℕ) → SectionMeanings → List TreeRow
  rows_of_sections depth nesting number NoSections = []
  rows_of_sections depth nesting number (MoreSections s ss) =
      rows_of_section depth nesting number s ++ rows_of_sections depth nesting (number + 1) ss

  pub rows_of_section : (depth nesting number : ℕ) → SectionMeaning → List TreeRow
  rows_of_section depth nesting number (Section kind extended body) =
      record { depth = depth; nesting = nesting; number = number; node = SectionNode (Section kind extended body) }
      ∷ rows_in_body (depth + 1) (nesting + 1) body

  pub rows_in_body : (depth nesting : ℕ) → BodyMeaning → List TreeRow
  rows_in_body depth nesting (Leaf b) = []
  rows_in_body depth nesting (Group sections tail) = rows_of_sections depth nesting 0 sections
  rows_in_body depth nesting (Nested volume) = rows_of_volume depth nesting volume

-- all rows of a volume; the first row is the volume itself
abbrev pub tree_rows : Meaning → List TreeRow
tree_rows m = rows_of_volume 0 0 m

-- the parts that a part contains, in order
abbrev pub parts_in_body : BodyMeaning → List NodeMeaning
parts_in_body (Leaf _) = []
parts_in_body (Group sections _) = map SectionNode (sections_list sections)
parts_in_body (Nested volume) = VolumeNode volume ∷ []

abbrev pub parts_in : NodeMeaning → List NodeMeaning
parts_in (VolumeNode m) = map FileNode (files_of m)
parts_in (FileNode f) = map SectionNode (sections_list (sections_in_data (content_of f)))
parts_in (SectionNode s) = parts_in_body (body_of s)
