-- Definitions for the code that puts lines: rows, cells and notes.
use Rattle.std.specs.Prelude.{ℕ, ◌+◌, ◌≤◌, List, Option}
use Rattle.std.specs.List.{AllByRecursion, sum_by}
use Rattle.fv_base.specs.Words.{volume_limit}
use Rattle.fv_file.specs.Words.{CellForm, offset_of, LengthsAgree, cell_len}
use Rattle.fv_lines.specs.CellTexts.{lengths_of}
use Rattle.fv_lines.specs.declared.cell_text.LengthSums.{LengthSums}
use Rattle.fv_rows.specs.Words.{NodeMeaning, TreeRow}
use Rattle.fv_lines.specs.ListTexts.{RowsText}
use Rattle.fv_lines.specs.Notes.{AreNotes, HeldDepex, depex_lines}
use Rattle.fv_lines.specs.declared.depex_notes.DepexNote.{DepexNote}

-- a cell ends within the bytes that a volume may have, and its lengths agree (`LengthsAgree`)
pub record CellFits (c : CellForm) : Type 0 where
  pub within : offset_of c + cell_len c ≤ volume_limit
  pub lengths_agree : LengthsAgree c

-- each of the cells fits, and together they have at most as many bytes as a volume may have
pub record FitTogether (cells : List CellForm) : Type 0 where
  pub each : AllByRecursion CellFits cells
  pub together : sum_by cell_len cells ≤ volume_limit

-- the sums after one more cell has been added
abbrev pub sums_with : LengthSums → CellForm → LengthSums
sums_with sums c = record {
  files = sums.files + (lengths_of c).files;
  pads = sums.pads + (lengths_of c).pads;
  deleted = sums.deleted + (lengths_of c).deleted;
  filler = sums.filler + (lengths_of c).filler;
  free = sums.free + (lengths_of c).free;
}

-- the number of all bytes that were counted
abbrev pub counted : LengthSums → ℕ
counted sums = sums.files + sums.pads + sums.deleted + sums.filler + sums.free

-- the sink took the lines of the notes on these expressions
abbrev pub PutsNotes : {S : Type 0} (takes : S → List ℕ → S → Type 0) → List HeldDepex → S → S → Type 0
PutsNotes takes xs s t = (notes : List DepexNote) × AreNotes xs notes × takes s (depex_lines notes) t

-- the sink took the lines of these rows
abbrev pub PutsRows : {S : Type 0} (takes : S → List ℕ → S → Type 0)
    → (NodeMeaning → Option (List ℕ) → Type 0) → List TreeRow → S → S → Type 0
PutsRows takes of_node rows s t = (text : List ℕ) × RowsText of_node rows text × takes s text t
