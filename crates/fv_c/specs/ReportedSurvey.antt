-- The rows of a survey, as they are reported to C (PI specification, volume 3, section 3.2).
use Rattle.std.specs.Prelude.{ℕ, Bool, true, false, List, map}
use Rattle.fv_base.specs.Words.{bytes_of}
use Rattle.fv_survey.specs.Words.{bits_of, survey_of, survey_of_sections}
use Rattle.fv_survey.specs.declared.row.Row.{Row}
use Rattle.fv_survey.specs.declared.row.RowKind.{RowKind}
use Rattle.fv_survey.specs.declared.row.RowKind.TheVariants as kinds
use Rattle.fv_c.specs.declared.survey.FvSurveyRow.{FvSurveyRow}

-- the number of a kind of rows
abbrev pub kind_number : RowKind → ℕ
kind_number kinds.Volume = 1
kind_number kinds.File = 2
kind_number kinds.Section = 3
kind_number kinds.Lost = 4
kind_number kinds.VolumeHeader = 5
kind_number kinds.ExtHeader = 6
kind_number kinds.FileHeader = 7
kind_number kinds.SectionHeader = 8
kind_number kinds.Data = 9
kind_number kinds.Body = 10
kind_number kinds.Packed = 11
kind_number kinds.Pad = 12
kind_number kinds.PadData = 13
kind_number kinds.Dead = 14
kind_number kinds.Stub = 15
kind_number kinds.Free = 16
kind_number kinds.Filler = 17
kind_number kinds.Between = 18
kind_number kinds.Gap = 19
kind_number kinds.Store = 20
kind_number kinds.Unread = 21

-- the number for whether a row is a volume that was found by its signature: 1 if it is, and otherwise 0
abbrev pub found_number : Bool → ℕ
found_number true = 1
found_number false = 0

-- the report of a row
abbrev pub reported_row : Row → FvSurveyRow
reported_row r = record {
  offset = r.offset;
  length = r.length;
  kind = kind_number r.kind;
  depth = r.depth;
  efi_type = r.code;
  found = found_number r.found;
  findings = bits_of r.findings;
  name = bytes_of r.name;
  reserved = 0;
}

-- the reports of the rows of the survey of an image, in preorder
abbrev pub reported_survey : (image : List ℕ) → List FvSurveyRow
reported_survey image = map reported_row (survey_of image)

-- the reports of the rows of the survey of a stream of sections, in preorder
abbrev pub reported_sections_survey : (sections : List ℕ) → List FvSurveyRow
reported_sections_survey sections = map reported_row (survey_of_sections sections)
