-- The notes of `check` on pads.
use Rattle.std.specs.Prelude.{◌≡◌, ℕ, Bool, true, false, List, []}
use Rattle.fv_base.specs.declared.flash.Polarity.{Polarity}
use Rattle.fv_file.specs.Words.{CellForm}
use Rattle.fv_tree.specs.Words.{Accepted, Meaning}
use Rattle.fv_lines.specs.Words.{pad_notes}
use Rattle.fv_command.specs.Tasks.{AreCells}

-- the text has the notes on the pads of the input; it is empty if the input is its own canonical image
abbrev pub NotedPads : List ℕ → Bool → List ℕ → Type 0
NotedPads input true text = text ≡ []
NotedPads input false text = (m : Meaning) → Accepted input m
    → (polarity : Polarity) × (cells : List CellForm) × AreCells m input polarity cells × (text ≡ pad_notes polarity cells)
