-- A body and its copy without the marks of fixed files, cell by cell; and two bodies that differ in such marks only (PI
-- specification, volume 3, section 3.2.3.1, FFS_ATTRIB_FIXED).
use Rattle.std.specs.Prelude.{◌≡◌, ◌≢◌, ℕ, ◌+◌, ◌-◌, ◌%◌, ◌⊎◌, ◌&&◌, not, Bool, true, if◌then◌else◌, List, [], ◌∷◌, ◌++◌, length}
use Rattle.fv_base.specs.declared.fault.Fault.{Fault}
use Rattle.fv_base.specs.declared.flash.FileSystem.{FileSystem}
use Rattle.fv_base.specs.declared.flash.Polarity.{Polarity}
use Rattle.fv_base.specs.declared.fault.FaultKind.TheVariants as kinds
use Rattle.fv_file.specs.CellForms.{cell_len}
use Rattle.fv_file.specs.Cells.{CellForm, IsCell, Tiles, offset_of, is_free}
use Rattle.fv_file.specs.FileAttributes.{attribute_bits, attributes_by, is_fixed}
use Rattle.fv_file.specs.FileChecks.{IsFirstCellFault, is_valid_state, skips_data}
use Rattle.fv_file.specs.FileHeaders.{attributes_at, state_at}
use Rattle.fv_file.specs.States.{state_of}
use Rattle.fv_file.specs.Unmarking.{unmarked, Unmarks}
use Rattle.fv_file.specs.declared.head.FileHead.{FileHead}

-- the header at the start of x is the header of a valid file that is not a pad and is marked as fixed
abbrev pub is_marked : Polarity → List ℕ → Bool
is_marked polarity x = not (skips_data (is_valid_state (state_of polarity (state_at x))) x) && is_fixed (attributes_at x)

-- the bytes x of a cell without its mark. If the cell is a valid fixed file (`is_marked`), bit 0x04 of its attributes is
-- cleared, and 4 is added to its header checksum, modulo 256 (`unmarked`). All other bytes stay the same
abbrev pub without_mark : Polarity → List ℕ → List ℕ
without_mark polarity x = if is_marked polarity x then unmarked 0 x else x

-- the fields of a fixed file's header without its mark: bit 0x04 of the attributes is cleared, and 4 is added to the
-- header checksum, modulo 256
abbrev pub but_for_mark : FileHead → FileHead
but_for_mark h = record {
  name = h.name;
  header_sum = (h.header_sum + 4) % 256;
  file_sum = h.file_sum;
  kind = h.kind;
  attributes = attributes_by (attribute_bits h.attributes - 4);
  size = h.size;
  header_len = h.header_len;
  state = h.state;
}

-- cell by cell, o is the body b without the marks of valid fixed files. Both consist of parts, one after the other. Each
-- part of o is the same part of b without its mark, and is one of these cells, of which the first is at the offset `at`.
-- Only the last may be a free cell
abbrev pub TilesUnmarked : FileSystem → Polarity → ℕ → List CellForm → List ℕ → List ℕ → Type 0
TilesUnmarked system polarity at [] b o = (b ≡ []) × (o ≡ [])
TilesUnmarked system polarity at (c ∷ cs) b o =
    (x : List ℕ) × (rest : List ℕ) × (more : List ℕ) × (b ≡ x ++ rest) × (o ≡ without_mark polarity x ++ more)
    × IsCell system polarity c (without_mark polarity x) × (offset_of c ≡ at) × (is_free c ≡ true → cs ≡ [])
    × TilesUnmarked system polarity (at + length x) cs rest more

-- the bytes x and y of a cell differ in the mark of a valid fixed file only. They are the same, or one of them is such a
-- file, and the other is this file without its mark
abbrev pub DiffersInMark : Polarity → List ℕ → List ℕ → Type 0
DiffersInMark polarity x y =
    (x ≡ y) ⊎ ((is_marked polarity x ≡ true) × (y ≡ unmarked 0 x)) ⊎ ((is_marked polarity y ≡ true) × (x ≡ unmarked 0 y))

-- the bodies a and b differ in the marks of valid fixed files only. They consist of parts that are as long as these cells,
-- one after the other, and each part of a differs from the same part of b in a mark only, or not at all
abbrev pub DifferInMarks : Polarity → List CellForm → List ℕ → List ℕ → Type 0
DifferInMarks polarity [] a b = (a ≡ []) × (b ≡ [])
DifferInMarks polarity (c ∷ cs) a b =
    (x : List ℕ) × (y : List ℕ) × (rest : List ℕ) × (more : List ℕ) × (a ≡ x ++ rest) × (b ≡ y ++ more) × (length x ≡ cell_len c)
    × DiffersInMark polarity x y × DifferInMarks polarity cs rest more

-- the marks of all fixed files can be taken away from the body: cells tile it then
abbrev pub Unmarkable : FileSystem → Polarity → ℕ → List ℕ → Type 0
Unmarkable system polarity first body =
    (places : List ℕ) × (o : List ℕ) × Unmarks system polarity first places body o
    × ((cells : List CellForm) × Tiles system polarity first cells o)

-- the fault is not Fixed, and is the first fault of the body after the marks of some fixed files were taken away
abbrev pub UnmarkingStops : FileSystem → Polarity → ℕ → List ℕ → Fault → Type 0
UnmarkingStops system polarity first body fault =
    (places : List ℕ) × (o : List ℕ) × Unmarks system polarity first places body o
    × IsFirstCellFault system polarity first o fault × (fault.kind ≢ kinds.Fixed)
