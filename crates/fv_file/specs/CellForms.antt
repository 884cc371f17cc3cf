-- The cells that the calls return, as contracts see them, and the lengths of cells (PI specification, volume 3,
-- sections 3.2.2 and 3.2.3).
use Rattle.fv_file.specs.Cells.{CellForm, Valid, Pad, Dead, Stub, Free, offset_of}
use Rattle.fv_file.specs.declared.cell.Cell.{Cell}
use Rattle.fv_file.specs.declared.cell.Cell.TheVariants as cells
use Rattle.std.specs.Prelude.{◌≡◌, ℕ, ◌+◌, ◌≤◌, List, [], ◌∷◌, length}
use Rattle.fv_base.specs.Words.{up_to_8}

-- the `CellForm` of a `Cell`: the same cell, with its data as a list of bytes
abbrev pub cell_form : Cell → CellForm
cell_form (cells.Valid at head payload) = Valid at head payload.now
cell_form (cells.Pad at head payload) = Pad at head payload.now
cell_form (cells.Dead at len state) = Dead at len state
cell_form (cells.Stub at len) = Stub at len
cell_form (cells.Free at len) = Free at len

-- the length of a cell in bytes, including its filler
abbrev pub cell_len : CellForm → ℕ
cell_len (Valid at head payload) = up_to_8 head.size
cell_len (Pad at head payload) = up_to_8 head.size
cell_len (Dead at len state) = len
cell_len (Stub at len) = len
cell_len (Free at len) = len

-- in a file or pad, the lengths of the header and of the data add up to the size
abbrev pub LengthsAgree : CellForm → Type 0
LengthsAgree (Valid at head payload) = head.header_len + length payload ≡ head.size
LengthsAgree (Pad at head payload) = head.header_len + length payload ≡ head.size
LengthsAgree _ = Unit {0}

-- each cell ends at most `end` bytes after the volume's start, and in each file or pad the lengths of the header and of
-- the data add up to the size
abbrev pub CellsWithin : ℕ → List CellForm → Type 0
CellsWithin end [] = Unit {0}
CellsWithin end (c ∷ cs) = (offset_of c + cell_len c ≤ end) × LengthsAgree c × CellsWithin end cs
