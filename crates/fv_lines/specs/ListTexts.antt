-- The text of `list`: a line for the volume, for each of its files and for each section of these files, in order. The
-- contents of a part follow its line, indented by two more spaces. The line of a volume, a file or a leaf may end with
-- a digest.
use Rattle.std.specs.Prelude.{◌≡◌, ◌≢◌, ◌⊎◌, ℕ, zero, suc, ◌==◌, ◌&&◌, nat_le, not, Bool, true, false}
use Rattle.std.specs.Prelude.{if◌then◌else◌, List, [], ◌∷◌, ◌++◌, length, Option, Some, None, codes, decimal}
use Rattle.std.specs.List.{flat_map}
use Rattle.hex.specs.Hex.{encode_lower}
use Rattle.fv_base.specs.Words.{bytes_of, guid_text, words_of}
use Rattle.fv_base.specs.declared.flash.FileSystem.{FileSystem}
use Rattle.fv_base.specs.declared.guid.Guid.{Guid}
use Rattle.fv_base.specs.declared.flash.FileSystem.TheVariants.{Ffs2, Ffs3}
use Rattle.fv_text.specs.Words.{four_digits, line_feed, two_digits}
use Rattle.fv_head.specs.Words.{Extension}
use Rattle.fv_section.specs.Words.{IsText, IsVersion, IsFreeform}
use Rattle.fv_tree.specs.Words.{Meaning, SectionMeaning, BodyMeaning, Leaf, Group, Nested}
use Rattle.fv_tree.specs.Words.{body_len, head_of, files_of, file_name_of, attributes_of, data_len_of, file_kind_of}
use Rattle.fv_tree.specs.Words.{section_kind_of, section_is_extended, body_of}
use Rattle.fv_rows.specs.Words.{NodeMeaning, VolumeNode, FileNode, SectionNode, TreeRow, tree_rows}

-- ---- the text in the line of a leaf

-- a plain 16-bit unit, which is one of 0020 to 007E except the quote (0022) and the backslash (005C), is shown as its
-- character, and any other unit as `\u` and four digits
abbrev pub unit_text : ℕ → List ℕ
unit_text unit =
    if nat_le 0x20 unit && (nat_le unit 0x7e && (not (unit == 0x22) && not (unit == 0x5c))) then unit ∷ []
    else codes "\\u" ++ four_digits unit

-- the text shows an x for which `Holds x` is true; if there is none, the text is empty
abbrev pub Shows : {A : Type 0} → (A → Type 0) → (A → List ℕ) → List ℕ → Type 0
Shows {A = A} Holds shown text = ((x : A) × Holds x × (text ≡ shown x)) ⊎ (((x : A) → Holds x → ⊥) × (text ≡ []))

-- the text shown for the body of a leaf, by the type of its section: the build number of a version section, the text of a
-- user interface section, and the GUID of a freeform subtype section; the text is empty if the body does not have that
-- format, and for any other type
pub record LeafText (kind : ℕ) (b text : List ℕ) : Type 0 where
  pub version : kind ≡ 0x14 → Shows (λ (build : ℕ). (units : List ℕ) × IsVersion b build units)
      (λ build. codes " version " ++ decimal build) text
  pub interface : kind ≡ 0x15 → Shows (λ (units : List ℕ). IsText b units)
      (λ units. codes " ui \"" ++ (flat_map unit_text (words_of units) ++ codes "\"")) text
  pub subtype : kind ≡ 0x18 → Shows (λ (guid : Guid). (rest : List ℕ) × IsFreeform b guid rest)
      (λ guid. codes " subtype " ++ guid_text (bytes_of guid)) text
  pub other : kind ≢ 0x14 → kind ≢ 0x15 → kind ≢ 0x18 → text ≡ []

-- the text shown for the body of a section, which is empty if the section is not a leaf
abbrev pub BodyShown : ℕ → BodyMeaning → List ℕ → Type 0
BodyShown kind (Leaf b) text = LeafText kind b text
BodyShown kind (Group _ _) text = text ≡ []
BodyShown kind (Nested _) text = text ≡ []

-- ---- lines

-- the indentation of a line: two spaces for each level
abbrev pub spaces : ℕ → List ℕ
spaces zero = []
spaces (suc k) = codes "  " ++ spaces k

-- the digest at the end of a line, in lower-case hexadecimal digits; nothing, if there is none
abbrev pub digest_text : Option (List ℕ) → List ℕ
digest_text None = []
digest_text (Some digest) = codes " sha256 " ++ encode_lower digest

-- the beginning of a volume's line, which names the file system
abbrev pub system_text : FileSystem → List ℕ
system_text Ffs2 = codes "volume ffs2 length "
system_text Ffs3 = codes "volume ffs3 length "

-- the volume's name in its line, if there is an extended header
abbrev pub name_text : Option Extension → List ℕ
name_text None = []
name_text (Some ext) = codes " name " ++ guid_text (bytes_of ext.name)

-- the form of a section's header in the section's line
abbrev pub form_text : Bool → List ℕ
form_text true = codes " extended body "
form_text false = codes " short body "

-- the start of the line of section number i of a stream, indented by k levels: up to the length of its body
abbrev pub section_start : (k i : ℕ) → SectionMeaning → List ℕ
section_start k i s =
    spaces k ++ (codes "section " ++ (decimal i ++ (codes " type " ++ (two_digits (section_kind_of s)
    ++ (form_text (section_is_extended s) ++ decimal (body_len (body_of s)))))))

-- the line of a part, indented by k levels: a volume, file number i of a volume, or section number i of a stream. `shown`
-- is the text shown for the body of a section
abbrev pub node_text : (k i : ℕ) → NodeMeaning → (shown : List ℕ) → Option (List ℕ) → List ℕ
node_text k i (VolumeNode m) shown digest =
    spaces k ++ (system_text (head_of m).file_system ++ (decimal (head_of m).length ++ (codes " files "
    ++ (decimal (length (files_of m)) ++ (name_text (head_of m).ext ++ (digest_text digest ++ line_feed))))))
node_text k i (FileNode f) shown digest =
    spaces k ++ (codes "file " ++ (decimal i ++ (codes " " ++ (guid_text (bytes_of (file_name_of f))
    ++ (codes " type " ++ (two_digits (file_kind_of f)
    ++ (codes " attributes " ++ (two_digits (attributes_of f)
    ++ (codes " data " ++ (decimal (data_len_of f) ++ (digest_text digest ++ line_feed)))))))))))
node_text k i (SectionNode s) shown digest =
    section_start k i s ++ (shown ++ (digest_text digest ++ line_feed))

-- ---- the rows

-- the line of a volume, a file or a section, indented by this number of levels; the part is number i of its volume or
-- stream
abbrev pub NodeText : (depth i : ℕ) → NodeMeaning → Option (List ℕ) → List ℕ → Type 0
NodeText depth i (SectionNode s) digest text =
    (shown : List ℕ) × BodyShown (section_kind_of s) (body_of s) shown
    × (text ≡ node_text depth i (SectionNode s) shown digest)
NodeText depth i node digest text = text ≡ node_text depth i node [] digest

-- the lines of some rows, one after the other. The relation says which digest the line of a part shows, if any
abbrev pub RowsText : (NodeMeaning → Option (List ℕ) → Type 0) → List TreeRow → List ℕ → Type 0
RowsText of_node [] text = text ≡ []
RowsText of_node (r ∷ rs) text =
    (digest : Option (List ℕ)) × (here : List ℕ) × (rest : List ℕ) × of_node r.node digest
    × NodeText r.depth r.number r.node digest here × (text ≡ here ++ rest) × RowsText of_node rs rest

-- the text is the output of `list` for a volume with this meaning: no line shows a digest
abbrev pub ListText : Meaning → List ℕ → Type 0
ListText m text = RowsText (λ _ digest. digest ≡ None) (tree_rows m) text
