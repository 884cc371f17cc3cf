-- The tolerant reading of an image: which row a portion gives first, which portions lie in this row, and which are left
-- after it; and so the rows of the image.
use Rattle.std.specs.Prelude.{ℕ, zero, suc, ◌+◌, ◌-◌, ◌*◌, ◌==◌, nat_lt, ◌&&◌, ◌||◌, Bool, true, false, if◌then◌else◌}
use Rattle.std.specs.Prelude.{List, [], ◌∷◌, length, slice_index}
use Rattle.fv_base.specs.Words.{all_are, erased_byte, field}
use Rattle.fv_base.specs.declared.fault.FaultKind.TheVariants as faults
use Rattle.fv_base.specs.declared.flash.Polarity.{Polarity}
use Rattle.fv_base.specs.declared.guid.Guid.{Guid}
use Rattle.fv_section.specs.Words.{section_header_len_at, section_size_at}
use Rattle.fv_survey.specs.declared.findings.Findings.{Findings}
use Rattle.fv_survey.specs.declared.parts.Parts.{Parts}
use Rattle.fv_survey.specs.declared.pieces.Layout.{Layout}
use Rattle.fv_survey.specs.declared.pieces.Piece.{Piece}
use Rattle.fv_survey.specs.declared.pieces.Sort.{Sort}
use Rattle.fv_survey.specs.declared.pieces.Sort.TheVariants as sorts
use Rattle.fv_survey.specs.declared.portion.Nesting.{Nesting}
use Rattle.fv_survey.specs.declared.portion.Opening.{Opening}
use Rattle.fv_survey.specs.declared.portion.Reading.{Reading}
use Rattle.fv_survey.specs.declared.portion.Reading.TheVariants as readings
use Rattle.fv_survey.specs.declared.row.Row.{Row}
use Rattle.fv_survey.specs.declared.row.RowKind.{RowKind}
use Rattle.fv_survey.specs.declared.row.RowKind.TheVariants as kinds
use Rattle.fv_survey.specs.declared.section_step.BodyForm.{BodyForm}
use Rattle.fv_survey.specs.declared.section_step.BodyForm.TheVariants as forms
use Rattle.fv_survey.specs.declared.systems.Files.{Files}
use Rattle.fv_survey.specs.declared.systems.Files.TheVariants as files
pub use Rattle.fv_survey.specs.Bodies.{cells_end, layout_of}
use Rattle.fv_survey.specs.FindingSets.{none, only, united, with_if}
use Rattle.fv_survey.specs.NameRules.{name_findings}
use Rattle.fv_survey.specs.PieceRules.{piece_by}
use Rattle.fv_survey.specs.Portions.{PortionForm, cut, ahead, inside, opened, searched, no_name, row_of}
use Rattle.fv_survey.specs.SectionRules.{begins_section, section_findings, next_section, place_findings, body_form, is_opened}
use Rattle.fv_survey.specs.Starts.{first_start}
use Rattle.fv_survey.specs.VolumeRules.{parts_by, volume_end}
use Rattle.fv_tree.specs.Words.{holds_sections}

-- ---- what rows say

-- a leaf row or a row of lost bytes; a section; a file, a pad or a deleted file; and a volume, which may have been
-- found by its signature
abbrev pub plain_opening : RowKind → Findings → Opening
plain_opening kind findings =
    record { kind = kind; code = 0; found = false; findings = findings; name = no_name }

abbrev pub section_opening : ℕ → Findings → Opening
section_opening code findings =
    record { kind = kinds.Section; code = code; found = false; findings = findings; name = no_name }

abbrev pub file_opening : ℕ → Findings → Guid → Opening
file_opening code findings name =
    record { kind = kinds.File; code = code; found = false; findings = findings; name = name }

abbrev pub volume_opening : Bool → Findings → Guid → Opening
volume_opening found findings name =
    record { kind = kinds.Volume; code = 0; found = found; findings = findings; name = name }

-- ---- lost bytes

-- bytes that cannot be read as the part of a volume that they should be: volumes are looked for in them
abbrev pub lost_inside : ℕ → PortionForm → List PortionForm → List PortionForm
lost_inside n p later = ahead (cut (readings.Run kinds.Unread) (inside p.nest) 0 n p) later

-- ---- volumes (rules 4 to 8)

-- what the row of the volume says that is these bytes
abbrev pub volume_said : Bool → List ℕ → Opening
volume_said found b =
    volume_opening found (united (parts_by b).findings (name_findings (parts_by b) b)) (parts_by b).name

-- the portions of the body of a volume
abbrev pub body_inside : Files → Nesting → Parts → PortionForm → List PortionForm → List PortionForm
body_inside files.Store nest parts p later = ahead (cut (readings.Run kinds.Store) nest parts.first (length p.bytes) p) later
body_inside files.Unknown nest parts p later =
    ahead (cut (readings.Lost (only faults.FileSystem)) nest parts.first (length p.bytes) p) later
body_inside _ nest parts p later =
    ahead (cut (readings.Cells (layout_of parts)) nest parts.first (cells_end parts.first (length p.bytes)) p)
    (ahead (cut (readings.Lost (only faults.Length)) nest (cells_end parts.first (length p.bytes)) (length p.bytes) p) later)

-- the portions of a volume with these parts, which is all bytes of the portion p
abbrev pub parts_inside : Nesting → Parts → PortionForm → List PortionForm → List PortionForm
parts_inside nest parts p later =
    ahead (cut (readings.Leaf kinds.VolumeHeader none) nest 0 parts.header p)
    (ahead (cut (readings.Run kinds.Between) nest parts.header parts.ext p)
    (ahead (cut (readings.Leaf kinds.ExtHeader none) nest parts.ext parts.ext_end p)
    (ahead (cut (readings.Leaf kinds.Filler none) nest parts.ext_end parts.first p)
    (body_inside parts.files nest parts p later))))

abbrev pub volume_inside : PortionForm → List PortionForm → List PortionForm
volume_inside p later = parts_inside (inside p.nest) (parts_by p.bytes) p later

-- ---- bytes without a structure (rules 1 to 3)

-- the volume at the start of a portion in which it was found
abbrev pub found_volume : PortionForm → PortionForm
found_volume p = cut readings.Volume (searched p.nest) 0 (volume_end p.bytes) p

-- the first row: the bytes before the first place at which a volume may begin, or the volume that begins with the
-- portion; or all bytes are unread, because volumes nest too deep
abbrev pub run_row : RowKind → PortionForm → Row
run_row kind p =
    if nat_lt 0 (first_start p.bytes) then row_of (plain_opening kind none) (first_start p.bytes) p
    else (if p.nest.found == 0 then row_of (plain_opening kinds.Unread (only faults.Depth)) (length p.bytes) p
    else row_of (volume_said true (found_volume p).bytes) (volume_end p.bytes) p)

abbrev pub run_inside : PortionForm → List PortionForm → List PortionForm
run_inside p later =
    if nat_lt 0 (first_start p.bytes) || (p.nest.found == 0) then later else volume_inside (found_volume p) later

abbrev pub run_after : RowKind → PortionForm → List PortionForm → List PortionForm
run_after kind p later = ahead (cut (readings.Run kind) p.nest (run_row kind p).length (length p.bytes) p) later

-- ---- cells (rules 9 to 12)

-- what the data of a file, a pad or a deleted file are read as
abbrev pub data_reading : Polarity → Sort → ℕ → List ℕ → Reading
data_reading polarity sorts.File code b =
    if holds_sections code then readings.Sections none else readings.Run kinds.Data
data_reading polarity sorts.Pad code b =
    if all_are (erased_byte polarity) b then readings.Leaf kinds.Pad none else readings.Run kinds.PadData
data_reading polarity _ code b = readings.Run kinds.Dead

abbrev pub piece_said : Sort → Piece → Opening
piece_said sorts.Free piece = plain_opening kinds.Free piece.findings
piece_said sorts.Stub piece = plain_opening kinds.Stub piece.findings
piece_said sorts.Lost piece = plain_opening kinds.Lost piece.findings
piece_said _ piece = file_opening piece.code piece.findings piece.name

-- the header, the data and the filler of a file, a pad or a deleted file
abbrev pub file_inside : Polarity → Piece → PortionForm → List PortionForm → List PortionForm
file_inside polarity piece p later =
    ahead (cut (readings.Leaf kinds.FileHeader none) (inside p.nest) 0 piece.header p)
    (ahead (cut (data_reading polarity piece.sort piece.code (field piece.header (piece.size - piece.header) p.bytes))
    (inside p.nest) piece.header piece.size p)
    (ahead (cut (readings.Leaf kinds.Filler none) (inside p.nest) piece.size piece.span p) later))

abbrev pub piece_inside : Polarity → Sort → Piece → PortionForm → List PortionForm → List PortionForm
piece_inside polarity sorts.Free piece p later = later
piece_inside polarity sorts.Stub piece p later = later
piece_inside polarity sorts.Lost piece p later = lost_inside piece.span p later
piece_inside polarity _ piece p later = file_inside polarity piece p later

abbrev pub cells_row : Layout → PortionForm → Row
cells_row layout p =
    row_of (piece_said (piece_by layout p.bytes).sort (piece_by layout p.bytes)) (piece_by layout p.bytes).span p

abbrev pub cells_inside : Layout → PortionForm → List PortionForm → List PortionForm
cells_inside layout p later =
    piece_inside layout.polarity (piece_by layout p.bytes).sort (piece_by layout p.bytes) p later

abbrev pub cells_after : Layout → PortionForm → List PortionForm → List PortionForm
cells_after layout p later =
    ahead (cut (readings.Cells layout) p.nest (piece_by layout p.bytes).span (length p.bytes) p) later

-- ---- sections (rules 13 and 14)

-- the type and the body of the section that the bytes begin with, and where the next section begins
abbrev pub kind_at : List ℕ → ℕ
kind_at b = slice_index b 3

abbrev pub body_at : List ℕ → List ℕ
body_at b = field (section_header_len_at b) (section_size_at b - section_header_len_at b) b

abbrev pub next_at : List ℕ → ℕ
next_at b = next_section (section_size_at b) b

-- the body of the section would be opened, and lies too deep for this
abbrev pub is_too_deep : Nesting → BodyForm → Bool
is_too_deep nest form = is_opened form && (nest.levels == 0)

-- what a body of this form is read as, and how deep it lies
abbrev pub body_reading : BodyForm → Reading
body_reading forms.Group = readings.Sections none
body_reading forms.Volume = readings.Volume
body_reading forms.Packed = readings.Run kinds.Packed
body_reading forms.Plain = readings.Run kinds.Body

abbrev pub body_portion : Nesting → BodyForm → PortionForm → PortionForm
body_portion nest form p =
    if is_too_deep nest form
    then cut (readings.Lost (only faults.Depth)) nest (section_header_len_at p.bytes) (section_size_at p.bytes) p
    else cut (body_reading form) (if is_opened form then opened nest else nest)
    (section_header_len_at p.bytes) (section_size_at p.bytes) p

abbrev pub sections_row : Findings → PortionForm → Row
sections_row odd p =
    if begins_section p.bytes
    then row_of (section_opening (kind_at p.bytes)
    (with_if (is_too_deep p.nest (body_form (kind_at p.bytes) (body_at p.bytes))) faults.Depth odd)) (section_size_at p.bytes) p
    else row_of (plain_opening kinds.Lost (section_findings p.bytes)) (length p.bytes) p

abbrev pub sections_inside : PortionForm → List PortionForm → List PortionForm
sections_inside p later =
    if begins_section p.bytes
    then ahead (cut (readings.Leaf kinds.SectionHeader none) (inside p.nest) 0 (section_header_len_at p.bytes) p)
    (ahead (body_portion (inside p.nest) (body_form (kind_at p.bytes) (body_at p.bytes)) p) later)
    else lost_inside (length p.bytes) p later

abbrev pub sections_after : PortionForm → List PortionForm → List PortionForm
sections_after p later =
    if begins_section p.bytes
    then ahead (cut (readings.Leaf kinds.Filler none) p.nest (section_size_at p.bytes) (next_at p.bytes) p)
    (ahead (cut (readings.Sections (place_findings (next_at p.bytes) (length p.bytes))) p.nest
    (next_at p.bytes) (length p.bytes) p) later)
    else later

-- ---- a portion

-- the first row of the portion
abbrev pub row_as : Reading → PortionForm → Row
row_as (readings.Leaf kind findings) p = row_of (plain_opening kind findings) (length p.bytes) p
row_as (readings.Run kind) p = run_row kind p
row_as (readings.Lost findings) p = row_of (plain_opening kinds.Lost findings) (length p.bytes) p
row_as readings.Volume p = row_of (volume_said false p.bytes) (length p.bytes) p
row_as (readings.Cells layout) p = cells_row layout p
row_as (readings.Sections odd) p = sections_row odd p

abbrev pub first_row : PortionForm → Row
first_row p = row_as p.reading p

-- the portions in the first row, before others
abbrev pub inside_as : Reading → PortionForm → List PortionForm → List PortionForm
inside_as (readings.Leaf kind findings) p later = later
inside_as (readings.Run kind) p later = run_inside p later
inside_as (readings.Lost findings) p later = lost_inside (length p.bytes) p later
inside_as readings.Volume p later = volume_inside p later
inside_as (readings.Cells layout) p later = cells_inside layout p later
inside_as (readings.Sections odd) p later = sections_inside p later

abbrev pub inside_first : PortionForm → List PortionForm → List PortionForm
inside_first p later = inside_as p.reading p later

-- the portions after the first row, before others
abbrev pub after_as : Reading → PortionForm → List PortionForm → List PortionForm
after_as (readings.Run kind) p later = run_after kind p later
after_as (readings.Cells layout) p later = cells_after layout p later
after_as (readings.Sections odd) p later = sections_after p later
after_as _ p later = later

abbrev pub after_first : PortionForm → List PortionForm → List PortionForm
after_first p later = after_as p.reading p later

-- ---- the rows

-- the most rows that a portion gives
abbrev pub most_as : Reading → ℕ → ℕ
most_as (readings.Leaf kind findings) n = 1
most_as (readings.Run kind) n = 2 * n - 1
most_as readings.Volume n = 2 * n - 2
most_as _ n = 2 * n

abbrev pub most_rows : List PortionForm → ℕ
most_rows [] = 0
most_rows (p ∷ ps) = most_as p.reading (length p.bytes) + most_rows ps

-- the first n rows of some portions, in preorder: the first row of the first portion, the rows of the portions in this
-- row, and then the rows of the portions after it
abbrev pub rows_up_to : ℕ → List PortionForm → List Row
rows_up_to zero ps = []
rows_up_to (suc n) [] = []
rows_up_to (suc n) (p ∷ ps) = first_row p ∷ rows_up_to n (inside_first p (after_first p ps))

-- the rows of some portions
abbrev pub rows_left : List PortionForm → List Row
rows_left ps = rows_up_to (most_rows ps) ps

-- bytes that lie in no row, as a portion that is read in this way
abbrev pub whole_portion : Reading → List ℕ → PortionForm
whole_portion reading b =
    record { reading = reading; nest = record { depth = 0; levels = 8; found = 8 }; at = 0; bytes = b }

-- an image as a portion: bytes without a structure, in which volumes are looked for; and as a list of portions, which is
-- empty if the image has no bytes
abbrev pub image_portion : List ℕ → PortionForm
image_portion b = whole_portion (readings.Run kinds.Gap) b

abbrev pub whole_image : List ℕ → List PortionForm
whole_image b = ahead (image_portion b) []

-- the rows of the survey of an image, in preorder
unfoldable pub survey_of : List ℕ → List Row
survey_of b = rows_left (whole_image b)

-- a stream of sections as a portion, and as a list of portions. It is read like the data of a file that holds sections
abbrev pub sections_portion : List ℕ → PortionForm
sections_portion b = whole_portion (readings.Sections none) b

abbrev pub whole_sections : List ℕ → List PortionForm
whole_sections b = ahead (sections_portion b) []

-- the rows of the survey of a stream of sections, in preorder
unfoldable pub survey_of_sections : List ℕ → List Row
survey_of_sections b = rows_left (whole_sections b)
