-- A body without the marks of fixed files (PI specification, volume 3, section 3.2.3.1, FFS_ATTRIB_FIXED).
use Rattle.std.specs.Prelude.{◌≡◌, ℕ, ◌+◌, ◌-◌, ◌%◌, List, [], ◌∷◌, slice_index, slice_set}
use Rattle.fv_base.specs.Words.{outer_fault}
use Rattle.fv_base.specs.declared.flash.FileSystem.{FileSystem}
use Rattle.fv_base.specs.declared.flash.Polarity.{Polarity}
use Rattle.fv_base.specs.declared.fault.FaultKind.TheVariants as kinds
use Rattle.fv_file.specs.FileChecks.{IsFirstCellFault}

-- the bytes b without the mark of the fixed file at the offset p: bit 0x04 of the file's attributes is cleared, and 4 is
-- added to its header checksum, modulo 256. So the bytes of the header have the same sum as before
abbrev pub unmarked : ℕ → List ℕ → List ℕ
unmarked p b =
    slice_set (slice_set b (p + 16) ((slice_index b (p + 16) + 4) % 256)) (p + 19) (slice_index b (p + 19) - 4)

-- o is the body b without the marks of the fixed files at these offsets, which count from the body's first byte. The
-- marks are taken away one after another. Just before a mark is taken away, the first fault of the body is that the
-- file with this mark is fixed. `first` is the offset of the body in its volume
abbrev pub Unmarks : FileSystem → Polarity → ℕ → List ℕ → List ℕ → List ℕ → Type 0
Unmarks system polarity first [] b o = o ≡ b
Unmarks system polarity first (p ∷ ps) b o =
    IsFirstCellFault system polarity first b (outer_fault kinds.Fixed (first + p + 19))
    × Unmarks system polarity first ps (unmarked p b) o
