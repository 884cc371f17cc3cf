-- The sources of an image at every level, and the packed sections in them (PI specification, volume 3, sections 3.2.4,
-- 3.2.5.2 and 3.2.5.7).
use Rattle.std.specs.Prelude.{ℕ, ◌+◌, ◌&&◌, Bool, true, false, List, [], ◌∷◌, ◌++◌, map, Option, Some, None}
use Rattle.std.specs.List.{filter}
use Rattle.fv_base.specs.Words.{field}
use Rattle.fv_budget.specs.Words.{is_packed}
use Rattle.fv_survey.specs.Words.{survey_of, survey_of_sections}
use Rattle.fv_survey.specs.declared.row.Row.{Row}
use Rattle.fv_survey.specs.declared.row.RowKind.{RowKind}
use Rattle.fv_survey.specs.declared.row.RowKind.TheVariants as kinds
use Rattle.fv_levels.specs.declared.levels.Source.{Source}
use Rattle.fv_levels.specs.declared.opened.OpenedSection.{OpenedSection}
use Rattle.fv_levels.specs.declared.place.Closed.{Closed}
use Rattle.fv_levels.specs.declared.place.Origin.{Origin}
use Rattle.fv_levels.specs.declared.place.PackedPlace.{PackedPlace}

-- ---- sources

-- a source: the number of opened sections around its bytes, its bytes, and the section that they are the contents of
pub record SourceForm : Type 0 where
  pub depth : ℕ
  pub bytes : List ℕ
  pub origin : Option Origin

abbrev pub source_form : Source → SourceForm
source_form s = record { depth = s.depth; bytes = s.bytes.now; origin = s.origin }

-- the image is a source that is not the contents of a section
abbrev pub image_source : List ℕ → SourceForm
image_source b = record { depth = 0; bytes = b; origin = None }

-- the contents of a section, which are kept
abbrev pub opened_source : OpenedSection → SourceForm
opened_source s = record { depth = s.depth; bytes = s.contents.items; origin = Some s.origin }

-- the sources, and the packed sections that are not opened, in order
pub record LevelsForm : Type 0 where
  pub sources : List SourceForm
  pub closed : List Closed

-- the rows of the survey of a source: of the image, or of the contents of a section, which are a stream of sections
abbrev pub rows_as : Option Origin → List ℕ → List Row
rows_as None b = survey_of b
rows_as (Some origin) b = survey_of_sections b

abbrev pub rows_of : SourceForm → List Row
rows_of s = rows_as s.origin s.bytes

-- ---- packed sections

-- rows of this kind are about sections
abbrev pub is_section : RowKind → Bool
is_section kinds.Section = true
is_section _ = false

-- the row is the row of a packed section: a section whose type is that of a compression section or of a GUID-defined
-- section. Its body may be empty, and the row may have findings
abbrev pub is_packed_row : Row → Bool
is_packed_row row = is_section row.kind && is_packed row.code

-- the rows of the packed sections of a source, in the order of the rows of its survey
abbrev pub packed_rows : SourceForm → List Row
packed_rows s = filter is_packed_row (rows_of s)

-- the packed section of a row of source n: where it is, and its bytes
abbrev pub section_in : ℕ → SourceForm → Row → PackedPlace × List ℕ
section_in n s row = (
  record { source = n; depth = s.depth; offset = row.offset; length = row.length },
  field row.offset row.length s.bytes,
)

-- the packed sections of source n
abbrev pub packed_in : ℕ → SourceForm → List (PackedPlace × List ℕ)
packed_in n s = map (section_in n s) (packed_rows s)

-- the packed sections of some sources, of which the first has the number n: source after source
abbrev pub packed_of : ℕ → List SourceForm → List (PackedPlace × List ℕ)
packed_of n [] = []
packed_of n (s ∷ ss) = packed_in n s ++ packed_of (n + 1) ss
