-- Facts about the files of a volume that was read.
use Rattle.std.proofs.Common.{◌≤◌, ℕ, [], ◌∷◌, List, length, not}
use Rattle.fv_base.proofs.Laws.{AllByRecursion, list_any, IsBytes, all_filter}
use Rattle.fv_base.specs.declared.flash.FileSystem.{FileSystem}
use Rattle.fv_base.specs.declared.flash.Polarity.{Polarity}
use Rattle.fv_file.specs.Words.{CellForm, Valid, Tiles}
use Rattle.fv_file.proofs.Laws.{FileRead as HeadRead, IsRead, tiles_read}
use Rattle.fv_tree.specs.Words.{FileForm, files_in, superseded_by, current_in}

abbrev pub FileIsAccepted : FileSystem → ℕ → FileForm → Type 0
FileIsAccepted system limit f = HeadRead system limit f.head f.payload

-- a fact about all cells gives the fact about each file among the cells
files_of_cells : (system : FileSystem) (limit : ℕ) (cells : List CellForm) → AllByRecursion (IsRead system limit) cells
    → AllByRecursion (FileIsAccepted system limit) (files_in cells)
files_of_cells system limit [] reads = tt
files_of_cells system limit (Valid at head payload ∷ cs) reads = (reads.0, files_of_cells system limit cs reads.1)
files_of_cells system limit (c ∷ cs) reads = files_of_cells system limit cs reads.1

-- each file in a body that cells tile is accepted
pub body_read : (system : FileSystem) (p : Polarity) (limit at : ℕ) (cells : List CellForm) (b : List ℕ) → IsBytes b → length b ≤ limit
    → Tiles system p at cells b → AllByRecursion (FileIsAccepted system limit) (files_in cells)
body_read system p limit at cells b small most tiles = files_of_cells system limit cells (tiles_read system p limit at cells b small most tiles)

pub current_read : (system : FileSystem) (limit : ℕ) (fs : List FileForm) → AllByRecursion (FileIsAccepted system limit) fs
    → AllByRecursion (FileIsAccepted system limit) (current_in fs)
current_read system limit fs reads = all_filter (λ (f : FileForm). not (list_any (superseded_by f) fs)) (FileIsAccepted system limit) fs reads
