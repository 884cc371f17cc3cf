-- An image at every level, as it is reported to C: its packed sections, and the contents of those that are opened (PI
-- specification, volume 3, sections 3.2.4, 3.2.5.2 and 3.2.5.7).
use Rattle.std.specs.Prelude.{ℕ, min, false, List, [], ◌∷◌, ◌++◌, length, map, Option, Some, None}
use Rattle.std.specs.List.{flat_map}
use Rattle.fv_budget.specs.Words.{full_budget}
use Rattle.fv_budget.specs.declared.budget.Budget.{Budget}
use Rattle.fv_levels.specs.Words.{LevelsForm, SourceForm, levels_of}
use Rattle.fv_levels.specs.declared.place.Closed.{Closed}
use Rattle.fv_levels.specs.declared.place.Origin.{Origin}
use Rattle.fv_levels.specs.declared.place.Reason.{Reason}
use Rattle.fv_levels.specs.declared.place.Reason.TheVariants as reasons
use Rattle.fv_c.specs.ReportedContents.{reported_open_fault, way_number}
use Rattle.fv_c.specs.Reports.{no_fault}
use Rattle.fv_c.specs.declared.levels.FvLevels.{FvLevels}
use Rattle.fv_c.specs.declared.levels.FvPacked.{FvPacked}
use Rattle.fv_c.specs.declared.reports.FvFault.{FvFault}

-- the budget of a call that may open this many bytes: 1 GiB, or `limit` if that is less
abbrev pub budget_within : (limit : ℕ) → Budget
budget_within limit = record { left = min full_budget.left limit; ran_out = false }

-- the levels of an image within this limit
abbrev pub levels_within : (limit : ℕ) (image : List ℕ) → LevelsForm
levels_within limit image = levels_of image (budget_within limit)

-- the number of a reason
abbrev pub reason_number : Reason → ℕ
reason_number (reasons.Fault f) = 1
reason_number reasons.TooDeep = 2
reason_number reasons.Spent = 3

-- the fault of a section that is not opened, or the report that there is none
abbrev pub reason_fault : Reason → FvFault
reason_fault (reasons.Fault f) = reported_open_fault f
reason_fault reasons.TooDeep = no_fault
reason_fault reasons.Spent = no_fault

-- a depth as a number of 32 bits. (A depth is at most 8.)
abbrev pub depth_number : ℕ → ℕ
depth_number depth = min depth 4294967295

-- the row of a section whose contents have n bytes
abbrev pub opened_row : Origin → (n : ℕ) → FvPacked
opened_row o n = record {
  source = o.place.source;
  offset = o.place.offset;
  length = o.place.length;
  contents_length = n;
  fault = no_fault;
  depth = depth_number o.place.depth;
  way = way_number o.way;
  reason = 0;
  reserved = 0;
}

-- the row of a section that is not opened
abbrev pub closed_row : Closed → FvPacked
closed_row c = record {
  source = c.place.source;
  offset = c.place.offset;
  length = c.place.length;
  contents_length = 0;
  fault = reason_fault c.reason;
  depth = depth_number c.place.depth;
  way = 0;
  reason = reason_number c.reason;
  reserved = 0;
}

-- the row of the section that a source is the contents of, and these contents. The image is not the contents of a
-- section
abbrev pub row_if : Option Origin → (n : ℕ) → List FvPacked
row_if None n = []
row_if (Some o) n = opened_row o n ∷ []

abbrev pub contents_if : Option Origin → List ℕ → List ℕ
contents_if None b = []
contents_if (Some o) b = b

abbrev pub source_row : SourceForm → List FvPacked
source_row s = row_if s.origin (length s.bytes)

abbrev pub source_contents : SourceForm → List ℕ
source_contents s = contents_if s.origin s.bytes

-- the rows of the sections that are opened, and all contents one after another, in the order of the sources
abbrev pub opened_rows : List SourceForm → List FvPacked
opened_rows sources = flat_map source_row sources

abbrev pub all_contents : List SourceForm → List ℕ
all_contents sources = flat_map source_contents sources

-- the rows of all packed sections: first of those that are opened, then of the others
abbrev pub reported_sections : LevelsForm → List FvPacked
reported_sections w = opened_rows w.sources ++ map closed_row w.closed

-- how many of the sections are opened, how many are not, and how many bytes all contents have
abbrev pub reported_levels : LevelsForm → FvLevels
reported_levels w = record {
  opened = length (opened_rows w.sources);
  closed = length w.closed;
  length = length (all_contents w.sources);
}
