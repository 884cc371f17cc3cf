-- The report of `check` on a volume: notes on pads whose data bytes are not all erased, notes on rejected dependency
-- expressions, and whether the volume is its own canonical image.
use Rattle.std.specs.Prelude.{◌≡◌, ◌⊎◌, ℕ, ◌==◌, ◌||◌, not, if◌then◌else◌, Bool, true, false, List, [], ◌∷◌, ◌++◌}
use Rattle.std.specs.Prelude.{Option, Some, None, codes, decimal}
use Rattle.std.specs.List.{count_by, flat_map}
use Rattle.fv_base.specs.Words.{erased_byte, bytes_of, guid_text}
use Rattle.fv_base.specs.declared.flash.Polarity.{Polarity}
use Rattle.fv_base.specs.declared.guid.Guid.{Guid}
use Rattle.fv_text.specs.Words.{line_feed}
use Rattle.fv_depex.specs.Words.{IsFirstOpFault, depex_fault_number, Spells}
use Rattle.fv_depex.specs.declared.fault.DepexFault.{DepexFault}
use Rattle.fv_depex.specs.declared.op.Op.{Op}
use Rattle.fv_depex.specs.declared.op.Phase.{Phase}
use Rattle.fv_depex.specs.declared.op.Phase.TheVariants.{Pei, Dxe}
use Rattle.fv_file.specs.Words.{CellForm, Pad}
use Rattle.fv_tree.specs.Words.{preorder, FileMeaning, File, Plain, Sectioned, SectionMeaning, Section, Leaf, Group}
use Rattle.fv_tree.specs.Words.{Nested}
use Rattle.fv_lines.specs.declared.depex_notes.DepexNote.{DepexNote}

-- ---- pads

-- how many of the bytes are not erased
abbrev pub written_in : Polarity → List ℕ → ℕ
written_in polarity bytes = count_by (λ x. not (x == erased_byte polarity)) bytes

-- the note on a pad at an offset, if n of its data bytes are not erased, or no text if n is 0
abbrev pub pad_line : ℕ → ℕ → List ℕ
pad_line at n =
    if n == 0 then []
    else codes "note pad at " ++ (decimal at ++ (codes " holds " ++ (decimal n ++ (codes " bytes" ++ line_feed))))

-- the note on a cell: only a pad whose data bytes are not all erased has one
abbrev pub pad_note : Polarity → CellForm → List ℕ
pad_note polarity (Pad at head payload) = pad_line at (written_in polarity payload)
pad_note polarity _ = []

-- the notes on the pads among some cells, in order
abbrev pub pad_notes : Polarity → List CellForm → List ℕ
pad_notes polarity cells = flat_map (pad_note polarity) cells

-- ---- dependency expressions

-- a dependency expression in a file: the name of the file, the phase whose rules apply to the expression, and its bytes
pub record HeldDepex : Type 0 where
  pub name : Guid
  pub phase : Phase
  pub bytes : List ℕ

-- the phase whose rules apply to a section of this type, or None if the section is not a dependency expression. The
-- rules of DXE apply to an expression of the MM phase (PI specification, volume 3, section 3.2.5,
-- EFI_SECTION_PEI_DEPEX, EFI_SECTION_DXE_DEPEX and EFI_SECTION_MM_DEPEX)
abbrev pub phase_of : ℕ → Option Phase
phase_of kind = if kind == 0x1b then Some Pei else (if (kind == 0x13) || (kind == 0x1c) then Some Dxe else None)

-- the bytes as an expression to which the rules of this phase apply; nothing, if there is no phase
abbrev pub read_by : Guid → List ℕ → Option Phase → List HeldDepex
read_by name b None = []
read_by name b (Some phase) = record { name = name; phase = phase; bytes = b } ∷ []

-- the expression in a section: the body of a leaf whose type is a type of dependency expressions; nothing otherwise
abbrev pub section_depex : Guid → SectionMeaning → List HeldDepex
section_depex name (Section kind extended (Leaf b)) = read_by name b (phase_of kind)
section_depex name (Section kind extended (Group _ _)) = []
section_depex name (Section kind extended (Nested _)) = []

-- the expressions in the data of a file, in preorder: groups are searched, nested volumes are not, and plain data
-- contain none
abbrev pub file_depexes : FileMeaning → List HeldDepex
file_depexes (File name kind attributes (Plain b)) = []
file_depexes (File name kind attributes (Sectioned ss tail)) = flat_map (section_depex name) (preorder ss)

-- the dependency expressions in some files, in order
abbrev pub depexes_in : List FileMeaning → List HeldDepex
depexes_in fs = flat_map file_depexes fs

-- the bytes do not spell an expression, and the note describes their first fault
pub record IsNoted (x : HeldDepex) (note : DepexNote) : Type 0 where
  pub fault : DepexFault
  pub first : IsFirstOpFault x.phase x.bytes fault
  pub note_is : note ≡ record { name = x.name; number = depex_fault_number fault.kind; offset = fault.offset }

-- the notes on some dependency expressions, in order: a note for each of them whose bytes do not spell an expression,
-- after which more bytes may follow
abbrev pub AreNotes : List HeldDepex → List DepexNote → Type 0
AreNotes [] notes = notes ≡ []
AreNotes (x ∷ xs) notes =
    (((ops : List Op) × (rest : List ℕ) × Spells x.phase ops rest x.bytes) × AreNotes xs notes)
    ⊎ ((note : DepexNote) × (rest : List DepexNote) × IsNoted x note × (notes ≡ note ∷ rest) × AreNotes xs rest)

-- the line of a note on a dependency expression, and the lines of some notes
abbrev pub depex_line : DepexNote → List ℕ
depex_line note =
    codes "note depex in " ++ (guid_text (bytes_of note.name)
    ++ (codes " fault " ++ (decimal note.number ++ (codes " at " ++ (decimal note.offset ++ line_feed)))))

abbrev pub depex_lines : List DepexNote → List ℕ
depex_lines notes = flat_map depex_line notes

-- ---- the verdict

-- the line that says whether a volume is its own canonical image: `canonical` or `not canonical`
abbrev pub verdict_line : Bool → List ℕ
verdict_line true = codes "canonical" ++ line_feed
verdict_line false = codes "not canonical" ++ line_feed
