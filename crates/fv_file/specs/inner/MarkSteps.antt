-- One place of a body, at which the mark of a fixed file may be taken away.
use Rattle.std.specs.Prelude.{ℕ, ◌≡◌, ◌⊎◌, ◌+◌, List, Err}
use Rattle.fv_base.specs.Words.{outer_fault}
use Rattle.fv_base.specs.declared.flash.FileSystem.{FileSystem}
use Rattle.fv_base.specs.declared.flash.Polarity.{Polarity}
use Rattle.fv_base.specs.declared.fault.FaultKind.TheVariants as kinds
use Rattle.fv_file.specs.Unmarking.{unmarked}
use Rattle.fv_file.specs.inner.CellVerdicts.{cell_verdict}

-- r is the bytes from the offset `at` of the volume on. b is r itself; or the file at `at` is fixed, and b is r without
-- the mark of this file
abbrev pub OneMarkLess : FileSystem → Polarity → ℕ → List ℕ → List ℕ → Type 0
OneMarkLess system polarity at r b =
    (b ≡ r) ⊎ ((cell_verdict system polarity at r ≡ Err (outer_fault kinds.Fixed (at + 19))) × (b ≡ unmarked 0 r))
