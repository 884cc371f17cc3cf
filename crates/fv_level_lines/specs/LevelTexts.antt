-- The text of `survey --open`: the text of `survey`, the lines of the contents of packed sections at every level, and the
-- lines of the packed sections that are not opened; and when all of this is clean (PI specification, volume 3, sections
-- 3.2, 3.2.4, 3.2.5.2 and 3.2.5.7).
use Rattle.std.specs.Prelude.{ℕ, ◌+◌, ◌-◌, ◌==◌, ◌&&◌, Bool, List, [], ◌∷◌, ◌++◌, length, map, Option, Some, None, codes, decimal}
use Rattle.std.specs.List.{concat, list_all}
use Rattle.fv_levels.specs.Words.{LevelsForm, SourceForm, rows_of}
use Rattle.fv_levels.specs.declared.place.Closed.{Closed}
use Rattle.fv_levels.specs.declared.place.Origin.{Origin}
use Rattle.fv_levels.specs.declared.place.PackedPlace.{PackedPlace}
use Rattle.fv_levels.specs.declared.place.Reason.{Reason}
use Rattle.fv_levels.specs.declared.place.Reason.TheVariants as reasons
use Rattle.fv_opened.specs.Words.{opened_text, spent_text, too_deep_text, unopened_text}
use Rattle.fv_survey.specs.declared.row.Row.{Row}
use Rattle.fv_survey_lines.specs.Words.{is_clean, row_line, totals_line}
use Rattle.fv_text.specs.Words.{line_feed}

-- ---- the lines of a source

-- where a packed section is: the number of the source that it is in, its offset in this source, and its length
abbrev pub place_text : PackedPlace → List ℕ
place_text place =
    codes " in " ++ (decimal place.source ++ (codes " at " ++ (decimal place.offset
    ++ (codes " length " ++ decimal place.length))))

-- the line of the source with this number, whose `size` bytes are the contents of a section
abbrev pub source_line : (number : ℕ) → Origin → (size : ℕ) → List ℕ
source_line number origin size =
    codes "source " ++ (decimal number ++ (place_text origin.place ++ (opened_text origin.way size ++ line_feed)))

-- the line of a source, if its bytes are the contents of a section: the image has no such line
abbrev pub head_lines : (number : ℕ) → Option Origin → (size : ℕ) → List (List ℕ)
head_lines number None size = []
head_lines number (Some origin) size = source_line number origin size ∷ []

-- the lines for n bytes with these rows: a line for each row, and the last line
abbrev pub account_lines : ℕ → List Row → List (List ℕ)
account_lines n rows = map row_line rows ++ (totals_line n rows ∷ [])

-- the lines of the source with this number: its own line, and the lines of its survey
abbrev pub source_lines : (number : ℕ) → SourceForm → List (List ℕ)
source_lines number s = head_lines number s.origin (length s.bytes) ++ account_lines (length s.bytes) (rows_of s)

-- the lines of some sources, of which the first has this number: source after source
abbrev pub sources_lines : (number : ℕ) → List SourceForm → List (List ℕ)
sources_lines number [] = []
sources_lines number (s ∷ ss) = source_lines number s ++ sources_lines (number + 1) ss

-- ---- the lines of the sections that are not opened

-- why a section is not opened, at the end of its line, as in `list --open`
abbrev pub reason_text : Reason → List ℕ
reason_text (reasons.Fault fault) = unopened_text fault
reason_text reasons.TooDeep = too_deep_text
reason_text reasons.Spent = spent_text

-- the line of a section that is not opened
abbrev pub closed_line : Closed → List ℕ
closed_line closed = codes "closed" ++ (place_text closed.place ++ reason_text closed.reason)

-- ---- the text

-- the last line: the number of the sections that are opened, and of the sections that are not opened. Each source but the
-- image is the contents of an opened section
abbrev pub counts_line : LevelsForm → List ℕ
counts_line w =
    codes "opened " ++ (decimal (length w.sources - 1) ++ (codes " closed " ++ (decimal (length w.closed) ++ line_feed)))

-- the lines of the text: the lines of all sources, which begin with the image; the lines of the sections that are not
-- opened; and the last line
abbrev pub levels_lines : LevelsForm → List (List ℕ)
levels_lines w = sources_lines 0 w.sources ++ (map closed_line w.closed ++ (counts_line w ∷ []))

-- the text of `survey --open` for the levels of an image
abbrev pub levels_text : LevelsForm → List ℕ
levels_text w = concat (levels_lines w)

-- ---- clean images

-- all levels are clean: each source is, and each packed section is opened
abbrev pub are_clean : LevelsForm → Bool
are_clean w = list_all (λ s. is_clean (rows_of s)) w.sources && (length w.closed == 0)
