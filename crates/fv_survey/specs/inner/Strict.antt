-- Pieces where the strict reading finds no fault.
use Rattle.std.specs.Prelude.{◌⊎◌, ℕ, List}
use Rattle.fv_base.specs.Words.{AllAre, AllHold, erased_byte}
use Rattle.fv_file.specs.Words.{cell_checks}
use Rattle.fv_survey.specs.declared.pieces.Layout.{Layout}
use Rattle.fv_survey.specs.PieceRules.{system_by}

-- the strict reading finds no fault at the start of r: all bytes are erased, or every check of a cell holds
abbrev pub IsStrict : Layout → List ℕ → Type 0
IsStrict layout r =
    AllAre (erased_byte layout.polarity) r ⊎ AllHold (cell_checks (system_by layout.files) layout.polarity 0 r)
