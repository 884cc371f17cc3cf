-- Where the meanings of two volumes first differ, in the order in which they are compared (PI specification, volume 3,
-- section 3.2).
use Rattle.std.specs.Prelude.{Bool, true, false, ℕ, ◌+◌, ◌==◌, ◌&&◌, List, [], ◌∷◌, Option, Some, None}
use Rattle.fv_base.specs.Words.{bytes_of}
use Rattle.fv_base.specs.declared.flash.FileSystem.{FileSystem}
use Rattle.fv_base.specs.declared.flash.FileSystem.TheVariants.{Ffs2, Ffs3}
use Rattle.std.specs.Bool.{beq}
use Rattle.std.specs.Cmp.Lexicographic.{pointwise}
use Rattle.std.specs.Option.{option_eq, option_or}
use Rattle.std.specs.Str.{bytes_eq}
use Rattle.fv_head.specs.Words.{Extension, HeadFields}
use Rattle.fv_tree.specs.Meaning.{Meaning, Volume, FileMeanings, NoFiles, MoreFiles, FileMeaning, File, ContentMeaning}
use Rattle.fv_tree.specs.Meaning.{Plain, Sectioned, SectionMeanings, NoSections, MoreSections, SectionMeaning, Section}
use Rattle.fv_tree.specs.Meaning.{BodyMeaning, Leaf, Group, Nested}
use Rattle.fv_tree.specs.declared.difference.Step.{Step}
use Rattle.fv_tree.specs.declared.difference.Step.TheVariants as steps
use Rattle.fv_tree.specs.declared.difference.DifferenceKind.{DifferenceKind}
use Rattle.fv_tree.specs.declared.difference.DifferenceKind.TheVariants as kinds

-- whether the file system is FFS3
abbrev pub is_ffs3 : FileSystem → Bool
is_ffs3 Ffs2 = false
is_ffs3 Ffs3 = true

-- ---- whether two values are equal

-- whether two block maps are equal
abbrev pub blocks_eq : List (ℕ × ℕ) → List (ℕ × ℕ) → Bool
blocks_eq = pointwise (λ (p q : ℕ × ℕ). (p.0 == q.0) && (p.1 == q.1))

-- whether the entries of two extended headers are equal
abbrev pub entries_eq : List (ℕ × List ℕ) → List (ℕ × List ℕ) → Bool
entries_eq = pointwise (λ (p q : ℕ × List ℕ). (p.0 == q.0) && bytes_eq p.1 q.1)

-- whether two extended headers are equal
abbrev pub ext_eq : Option Extension → Option Extension → Bool
ext_eq = option_eq (λ (x : Extension) (y : Extension).
    bytes_eq (bytes_of x.name) (bytes_of y.name) && entries_eq x.entries y.entries && bytes_eq x.tail y.tail)

-- ---- a path and a kind of difference

-- the steps that lead to the first difference of two meanings, and its kind; or None if the meanings are equal
abbrev pub Differs : Type 0
Differs = Option (List Step × DifferenceKind)

-- whether two meanings differ and at least one step leads to the difference
abbrev pub has_steps : Differs → Bool
has_steps (Some (s ∷ ss, word)) = true
has_steps _ = false

-- a difference of this kind, without steps
abbrev pub differ_in : DifferenceKind → Differs
differ_in word = Some ([], word)

-- a difference of this kind, without steps, unless the test is true
abbrev pub differ_unless : Bool → DifferenceKind → Differs
differ_unless true word = None
differ_unless false word = differ_in word

-- the same difference, with this step put first, as seen from one level further out
abbrev pub under : Step → Differs → Differs
under s None = None
under s (Some d) = Some (s ∷ d.0, d.1)

-- ---- the comparison

-- where two headers first differ, field by field: zero vector, file system, length, attributes, reserved byte, block
-- map, extended header
abbrev pub head_differs : HeadFields → HeadFields → Differs
head_differs h g =
    option_or (differ_unless (bytes_eq h.zero_vector g.zero_vector) kinds.ZeroVector)
    (option_or (differ_unless (beq (is_ffs3 h.file_system) (is_ffs3 g.file_system)) kinds.FileSystem)
    (option_or (differ_unless (h.length == g.length) kinds.Length)
    (option_or (differ_unless (h.attributes == g.attributes) kinds.VolumeAttributes)
    (option_or (differ_unless (h.reserved == g.reserved) kinds.Reserved)
    (option_or (differ_unless (blocks_eq h.blocks g.blocks) kinds.BlockMap)
    (differ_unless (ext_eq h.ext g.ext) kinds.ExtendedHeader))))))

abbrev mutual
  -- where two volumes first differ: in their headers; then in a pair of files with the same number, as far as both have
  -- files; then in the number of files
  pub difference : Meaning → Meaning → Differs
  difference (Volume h fs) (Volume g gs) = option_or (head_differs h g) (files_differ 0 fs gs)

  -- compares two lists of files; i is the number, counted from 0, that the first file of each list has in its volume
  pub files_differ : ℕ → FileMeanings → FileMeanings → Differs
  files_differ i NoFiles NoFiles = None
  files_differ i NoFiles (MoreFiles g gs) = differ_in kinds.FileCount
  files_differ i (MoreFiles f fs) NoFiles = differ_in kinds.FileCount
  files_differ i (MoreFiles f fs) (MoreFiles g gs) =
      option_or (under (steps.File i) (file_differs f g)) (files_differ (i + 1) fs gs)

  -- compares two files: their names, their types, their attributes, and then their contents
  pub file_differs : FileMeaning → FileMeaning → Differs
  file_differs (File n k a c) (File m l b d) =
      option_or (differ_unless (bytes_eq (bytes_of n) (bytes_of m)) kinds.Name)
      (option_or (differ_unless (k == l) kinds.Type)
      (option_or (differ_unless (a == b) kinds.Attributes) (content_differs c d)))

  -- compares the contents of two files: the bytes; or the sections in pairs, as far as both have sections, then the
  -- numbers of sections, then the numbers of bytes after the last section. Bytes also differ from sections, but two
  -- accepted files of one type never differ in this way
  pub content_differs : ContentMeaning → ContentMeaning → Differs
  content_differs (Plain b) (Plain c) = differ_unless (bytes_eq b c) kinds.Data
  content_differs (Plain b) (Sectioned ss t) = differ_in kinds.Data
  content_differs (Sectioned ss t) (Plain b) = differ_in kinds.Data
  content_differs (Sectioned ss t) (Sectioned rs u) =
      option_or (sections_differ 0 ss rs) (differ_unless (t == u) kinds.Tail)

  -- compares two lists of sections; i is the number, counted from 0, that the first section of each list has in its
  -- stream
  pub sections_differ : ℕ → SectionMeanings → SectionMeanings → Differs
  sections_differ i NoSections NoSections = None
  sections_differ i NoSections (MoreSections r rs) = differ_in kinds.SectionCount
  sections_differ i (MoreSections s ss) NoSections = differ_in kinds.SectionCount
  sections_differ i (MoreSections s ss) (MoreSections r rs) =
      option_or (under (steps.Section i) (section_differs s r)) (sections_differ (i + 1) ss rs)

  -- compares two sections: their types, the forms of their headers, and then their bodies
  pub section_differs : SectionMeaning → SectionMeaning → Differs
  section_differs (Section k e b) (Section l f c) =
      option_or (differ_unless (k == l) kinds.Type) (option_or (differ_unless (beq e f) kinds.Form) (body_differs b c))

  -- compares two bodies: whether they are bytes, a group or a volume, and then the bytes, the sections or the volumes
  pub body_differs : BodyMeaning → BodyMeaning → Differs
  body_differs (Leaf b) (Leaf c) = differ_unless (bytes_eq b c) kinds.Body
  body_differs (Leaf b) (Group rs u) = differ_in kinds.Shape
  body_differs (Leaf b) (Nested w) = differ_in kinds.Shape
  body_differs (Group ss t) (Leaf c) = differ_in kinds.Shape
  body_differs (Group ss t) (Group rs u) = option_or (sections_differ 0 ss rs) (differ_unless (t == u) kinds.Tail)
  body_differs (Group ss t) (Nested w) = differ_in kinds.Shape
  body_differs (Nested v) (Leaf c) = differ_in kinds.Shape
  body_differs (Nested v) (Group rs u) = differ_in kinds.Shape
  body_differs (Nested v) (Nested w) = difference v w
