-- The text of `survey`: a line for each row, and a last line that accounts for all bytes by kind; and which images are
-- clean.
use Rattle.std.specs.Prelude.{ℕ, ◌*◌, ◌≤◌, ◌<◌, ◌^◌, ◌==◌, ◌&&◌, not, if◌then◌else◌, Bool, List, [], ◌∷◌, ◌++◌, length, codes, decimal}
use Rattle.std.specs.List.{count_by, flat_map, list_all, sum_by}
use Rattle.fv_base.specs.declared.fault.FaultKind.TheVariants as faults
use Rattle.fv_text.specs.Words.{line_feed}
use Rattle.fv_survey.specs.Words.{Tile, bits_of, bit_of_kind, survey_of}
use Rattle.fv_survey.specs.declared.findings.Findings.{Findings}
use Rattle.fv_survey.specs.declared.row.Row.{Row}
use Rattle.fv_survey.specs.declared.row.RowKind.{RowKind}
use Rattle.fv_survey.specs.declared.row.RowKind.TheVariants as kinds
use Rattle.fv_survey_lines.specs.RowLines.{kind_word, row_line}

-- ---- clean images

-- the only finding is the mark of a fixed file (PI specification, volume 3, section 3.2.3.1, FFS_ATTRIB_FIXED)
abbrev pub is_marked_only : Findings → Bool
is_marked_only findings = bits_of findings == bit_of_kind faults.Fixed

-- there are findings other than the mark of a fixed file
abbrev pub has_other_findings : Findings → Bool
has_other_findings findings = not (bits_of findings == 0) && not (is_marked_only findings)

-- the place of a kind among the kinds of leaf rows, or 17 if rows of this kind are not leaf rows
abbrev pub leaf_number : RowKind → ℕ
leaf_number kinds.VolumeHeader = 0
leaf_number kinds.ExtHeader = 1
leaf_number kinds.FileHeader = 2
leaf_number kinds.SectionHeader = 3
leaf_number kinds.Data = 4
leaf_number kinds.Body = 5
leaf_number kinds.Packed = 6
leaf_number kinds.Pad = 7
leaf_number kinds.PadData = 8
leaf_number kinds.Dead = 9
leaf_number kinds.Stub = 10
leaf_number kinds.Free = 11
leaf_number kinds.Filler = 12
leaf_number kinds.Between = 13
leaf_number kinds.Gap = 14
leaf_number kinds.Store = 15
leaf_number kinds.Unread = 16
leaf_number _ = 17

-- the row is read, and has no findings other than the mark of a fixed file
abbrev pub is_sound : Row → Bool
is_sound row = not (leaf_number row.kind == leaf_number kinds.Unread) && not (has_other_findings row.findings)

-- an image with these rows is clean
abbrev pub is_clean : List Row → Bool
is_clean rows = list_all is_sound rows

-- ---- the last line

-- the kinds of leaf rows
abbrev pub leaf_kinds : List RowKind
leaf_kinds =
    kinds.VolumeHeader ∷ kinds.ExtHeader ∷ kinds.FileHeader ∷ kinds.SectionHeader ∷ kinds.Data ∷ kinds.Body ∷ kinds.Packed
    ∷ kinds.Pad ∷ kinds.PadData ∷ kinds.Dead ∷ kinds.Stub ∷ kinds.Free ∷ kinds.Filler ∷ kinds.Between ∷ kinds.Gap
    ∷ kinds.Store ∷ kinds.Unread ∷ []

-- the number of bytes in the rows of a kind of leaf rows
abbrev pub bytes_of_kind : RowKind → List Row → ℕ
bytes_of_kind kind rows = sum_by (λ row. if leaf_number row.kind == leaf_number kind then row.length else 0) rows

-- a kind and its number of bytes; and the same, or nothing if there are no bytes of this kind
abbrev pub count_text : RowKind → ℕ → List ℕ
count_text kind n = codes " " ++ (kind_word kind ++ (codes " " ++ decimal n))

abbrev pub sum_text : RowKind → ℕ → List ℕ
sum_text kind n = if n == 0 then [] else count_text kind n

-- the rows account for n bytes: each of these bytes is in exactly one leaf row, and there are at most two rows for each
-- byte
pub record AccountFor (n : ℕ) (rows : List Row) : Type 0 where
  pub room : n < 2 ^ 63
  pub tile : Tile n rows
  pub few : length rows ≤ 2 * n

-- the last line for n bytes with these rows: the number of bytes of each kind that occurs, and of all; and the number of
-- rows with findings other than the mark of a fixed file, and with only this mark
abbrev pub totals_line : ℕ → List Row → List ℕ
totals_line n rows =
    codes "sums" ++ (flat_map (λ kind. sum_text kind (bytes_of_kind kind rows)) leaf_kinds
    ++ (codes " all " ++ (decimal n
    ++ (codes " findings " ++ (decimal (count_by (λ row. has_other_findings row.findings) rows)
    ++ (codes " fixed " ++ (decimal (count_by (λ row. is_marked_only row.findings) rows) ++ line_feed)))))))

-- ---- the text

-- the lines of some rows, in order
abbrev pub rows_text : List Row → List ℕ
rows_text rows = flat_map row_line rows

-- the text for n bytes with these rows: a line for each row, and the last line
abbrev pub account_text : ℕ → List Row → List ℕ
account_text n rows = rows_text rows ++ totals_line n rows

-- the text of `survey` for an image: a line for each row of its survey, and the last line
abbrev pub survey_text : List ℕ → List ℕ
survey_text image = account_text (length image) (survey_of image)
