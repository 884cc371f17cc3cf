-- The findings of a survey are honest: what a finding of a row says is so in the bytes of the image at this row, and
-- bytes are lost or unread only for a reason (docs/FORMAT.md, "A tolerant reading"; PI specification, volume 3, section
-- 3.2). In all definitions b is the image, `around` are the rows around a row, from the innermost to the outermost, and
-- `before` are the rows before it in the same row, from the last to the first.
use Rattle.std.specs.Prelude.{◌≡◌, ◌⊎◌, ◌≤◌, ◌<◌, ℕ, suc, ◌+◌, ◌-◌, ◌%◌, ◌==◌, ◌||◌, Bool, true, false, if◌then◌else◌}
use Rattle.std.specs.Prelude.{List, [], ◌∷◌, length, drop, map}
use Rattle.fv_base.specs.Words.{field}
use Rattle.fv_base.specs.declared.fault.FaultKind.{FaultKind}
use Rattle.fv_base.specs.declared.fault.FaultKind.TheVariants as faults
use Rattle.fv_section.specs.Words.{has_section_size}
use Rattle.fv_survey.specs.declared.parts.Parts.{Parts}
use Rattle.fv_survey.specs.declared.row.Row.{Row}
use Rattle.fv_survey.specs.declared.row.RowKind.{RowKind}
use Rattle.fv_survey.specs.declared.row.RowKind.TheVariants as kinds
use Rattle.fv_survey.specs.declared.systems.Files.TheVariants as files
use Rattle.fv_survey.specs.Bodies.{cells_by, cells_end, layout_of}
use Rattle.fv_survey.specs.FindingSets.{has_finding, none}
use Rattle.fv_survey.specs.Forests.{Forest, Bare, Tree}
use Rattle.fv_survey.specs.NameRules.{body_files, current_files, has_top_elsewhere, has_twins, named_file}
use Rattle.fv_survey.specs.PieceRules.{IsBroken, piece_by}
use Rattle.fv_survey.specs.Portions.{row_of}
use Rattle.fv_survey.specs.Reading.{body_at, kind_at, plain_opening, sections_portion}
use Rattle.fv_survey.specs.SectionRules.{body_form, is_opened}
use Rattle.fv_survey.specs.Starts.{may_begin}
use Rattle.fv_survey.specs.VolumeRules.{breaks, parts_by}

-- ---- the bytes that a row is about

-- the bytes of a row, and the parts of the volume of a volume row
abbrev pub bytes_in : List ℕ → Row → List ℕ
bytes_in b row = field row.offset row.length b

abbrev pub parts_in : List ℕ → Row → Parts
parts_in b volume = parts_by (bytes_in b volume)

-- the cells of a volume that lie at the offset `at` of the image or after it
abbrev pub cells_from : List ℕ → Row → ℕ → List ℕ
cells_from b volume at =
    drop (at - (volume.offset + (parts_in b volume).first))
    (cells_by (parts_in b volume).files (parts_in b volume).first (bytes_in b volume))

-- where the sections in a row end: in a file where its data end, and in another row where the row ends
abbrev pub stream_end_in : RowKind → List ℕ → Row → List Row → ℕ
stream_end_in kinds.File b file (volume ∷ around) =
    file.offset + (piece_by (layout_of (parts_in b volume)) (cells_from b volume file.offset)).size
stream_end_in _ b outer around = outer.offset + outer.length

abbrev pub stream_end : List ℕ → List Row → ℕ
stream_end b [] = length b
stream_end b (outer ∷ around) = stream_end_in outer.kind b outer around

-- the bytes from the offset `at` to the end of the sections around it
abbrev pub stream_from : List ℕ → List Row → ℕ → List ℕ
stream_from b around at = field at (stream_end b around - at) b

-- ---- how deep a row lies

abbrev pub is_section : RowKind → Bool
is_section kinds.Section = true
is_section _ = false

-- how many of the rows are volumes that were found by their signatures
abbrev pub found_around : List Row → ℕ
found_around [] = 0
found_around (row ∷ around) = if row.found then suc (found_around around) else found_around around

-- how many of the rows are sections, up to the innermost volume that was found by its signature. All of these sections
-- were opened
abbrev pub opened_around : List Row → ℕ
opened_around [] = 0
opened_around (row ∷ around) =
    if row.found then 0 else (if is_section row.kind then suc (opened_around around) else opened_around around)

-- ---- why a row has a finding

-- a volume v with this finding: two of its files have the same name; a volume top file is not at the end (rule 8; PI
-- specification, volume 3, sections 3.2.1.3 and 3.2.3); or its header breaks the rule with this kind, of which `breaks`
-- has one line for each kind (rules 4 to 6; section 3.2.1.1)
abbrev pub breaks_names : FaultKind → List ℕ → Bool
breaks_names faults.DuplicateName v = has_twins (map named_file (body_files (parts_by v) v))
breaks_names faults.TopFile v = has_top_elsewhere (current_files (body_files (parts_by v) v))
breaks_names _ v = false

abbrev pub VolumeBreaks : FaultKind → List ℕ → Type 0
VolumeBreaks kind v = (breaks kind v || breaks_names kind v) ≡ true

-- a file, a pad, a dead file, a stub or free space with this finding: it lies in a volume, and the cells of this volume
-- that begin there break the rule with this kind (rules 9 to 12; sections 3.2.2 and 3.2.3)
abbrev pub CellBreaks : FaultKind → List ℕ → List Row → Row → Type 0
CellBreaks kind b [] row = ⊥
CellBreaks kind b (volume ∷ around) row =
    (volume.kind ≡ kinds.Volume) × IsBroken (layout_of (parts_in b volume)) kind (cells_from b volume row.offset)

-- the row before the offset `at` is a section that ends there, and whose length is not a multiple of 4
abbrev pub EndsOdd : List Row → ℕ → Type 0
EndsOdd [] at = ⊥
EndsOdd (last ∷ before) at =
    (last.kind ≡ kinds.Section) × (last.offset + last.length ≡ at) × ((last.length % 4 == 0) ≡ false)

-- a group, or a section whose body is a volume, lies in 8 sections that were opened
abbrev pub IsTooDeep : List ℕ → List Row → Row → Type 0
IsTooDeep b around section =
    (is_opened (body_form (kind_at (stream_from b around section.offset)) (body_at (stream_from b around section.offset))) ≡ true)
    × (opened_around around ≡ 8)

-- a section with this finding: it begins where the section before it ends, at no multiple of 4 (rule 13; section
-- 3.2.4); or it would be opened, and lies too deep (rule 14)
abbrev pub SectionBreaks : FaultKind → List ℕ → List Row → List Row → Row → Type 0
SectionBreaks faults.SectionSize b around before row = EndsOdd before row.offset
SectionBreaks faults.Depth b around before row = IsTooDeep b around row
SectionBreaks _ b around before row = ⊥

-- lost bytes with this finding among the sections of a file or a group: they are the last bytes of the stream, and
-- there are fewer than 4; or the size of the section that should begin there is wrong (rule 13; section 3.2.4)
abbrev pub LostSections : FaultKind → List ℕ → List Row → Row → Type 0
LostSections faults.SectionTail b around row = (row.offset + row.length ≡ stream_end b around) × (row.length < 4)
LostSections faults.SectionSize b around row =
    (row.offset + row.length ≡ stream_end b around) × (4 ≤ row.length) × (has_section_size (bytes_in b row) ≡ false)
LostSections _ b around row = ⊥

-- lost bytes with this finding in a section: the section would be opened, and lies too deep, and the bytes are its body
-- (rule 14); or they are lost among the sections of a group
abbrev pub LostInSection : FaultKind → List ℕ → Row → List Row → Row → Type 0
LostInSection faults.Depth b section around row =
    IsTooDeep b around section × (row.offset + row.length ≡ section.offset + section.length)
LostInSection kind b section around row = LostSections kind b (section ∷ around) row

-- lost bytes with this finding in a volume: the survey does not know the file system, and the bytes are the body (rule
-- 7; section 3.2.2); or they are the last bytes of a body whose length is not a multiple of 8 (rule 7); or the cells
-- that begin there break the rule with this kind (rules 9 to 12)
abbrev pub LostInVolume : FaultKind → List ℕ → Row → Row → Type 0
LostInVolume kind b volume row =
    ((kind ≡ faults.FileSystem) × ((parts_in b volume).files ≡ files.Unknown)
    × (row.offset ≡ volume.offset + (parts_in b volume).first) × (row.offset + row.length ≡ volume.offset + volume.length))
    ⊎ (((kind ≡ faults.Length) × (row.offset ≡ volume.offset + cells_end (parts_in b volume).first volume.length)
    × (row.offset + row.length ≡ volume.offset + volume.length))
    ⊎ IsBroken (layout_of (parts_in b volume)) kind (cells_from b volume row.offset))

-- lost bytes with this finding, by the row that they lie in
abbrev pub LostIn : RowKind → FaultKind → List ℕ → Row → List Row → Row → Type 0
LostIn kinds.Volume kind b volume around row = LostInVolume kind b volume row
LostIn kinds.File kind b file around row = LostSections kind b (file ∷ around) row
LostIn kinds.Section kind b section around row = LostInSection kind b section around row
LostIn _ kind b outer around row = ⊥

abbrev pub Loses : FaultKind → List ℕ → List Row → Row → Type 0
Loses kind b [] row = ⊥
Loses kind b (outer ∷ around) row = LostIn outer.kind kind b outer around row

-- unread bytes with this finding: a volume may begin there, and lies in 8 volumes that were found by their signatures
-- (rule 3)
abbrev pub UnreadBreaks : FaultKind → List ℕ → List Row → Row → Type 0
UnreadBreaks faults.Depth b around row = (may_begin (bytes_in b row) ≡ true) × (found_around around ≡ 8)
UnreadBreaks _ b around row = ⊥

-- a row with this finding, by its kind. Rows of all other kinds have no findings
abbrev pub StandsAs : RowKind → FaultKind → List ℕ → List Row → List Row → Row → Type 0
StandsAs kinds.Volume kind b around before row = VolumeBreaks kind (bytes_in b row)
StandsAs kinds.File kind b around before row = CellBreaks kind b around row
StandsAs kinds.Stub kind b around before row = CellBreaks kind b around row
StandsAs kinds.Free kind b around before row = CellBreaks kind b around row
StandsAs kinds.Section kind b around before row = SectionBreaks kind b around before row
StandsAs kinds.Lost kind b around before row = Loses kind b around row
StandsAs kinds.Unread kind b around before row = UnreadBreaks kind b around row
StandsAs _ kind b around before row = ⊥

-- each finding of the row says what is so
abbrev pub IsFounded : List ℕ → List Row → List Row → Row → Type 0
IsFounded b around before row =
    (kind : FaultKind) → has_finding kind row.findings ≡ true → StandsAs row.kind kind b around before row

-- ---- why bytes are lost or unread

-- the innermost row is a row of lost bytes
abbrev pub IsInLost : List Row → Type 0
IsInLost [] = ⊥
IsInLost (row ∷ around) = row.kind ≡ kinds.Lost

-- lost bytes have a finding, and unread bytes lie in lost bytes or have the finding Depth
abbrev pub ReasonAs : RowKind → List Row → Row → Type 0
ReasonAs kinds.Lost around row = (kind : FaultKind) × (has_finding kind row.findings ≡ true)
ReasonAs kinds.Unread around row = IsInLost around ⊎ (has_finding faults.Depth row.findings ≡ true)
ReasonAs _ around row = Unit {0}

-- ---- all rows

-- each finding of each row of the forest says what is so, and bytes are lost or unread only for a reason
abbrev pub IsHonest : List ℕ → List Row → List Row → Forest → Type 0
IsHonest b around before Bare = Unit {0}
IsHonest b around before (Tree row below after) =
    IsFounded b around before row × ReasonAs row.kind around row
    × IsHonest b (row ∷ around) [] below × IsHonest b around (row ∷ before) after

-- a row for all bytes of a stream of sections: the rows of the stream lie in it, as in the row of a file whose data are
-- the stream
abbrev pub whole_stream : List ℕ → Row
whole_stream b = row_of (plain_opening kinds.File none) (length b) (sections_portion b)
