-- The body of a volume: where its cells lie, and how they are read (rule 7 of the tolerant reading in docs/FORMAT.md;
-- PI specification, volume 3, section 3.2.2).
use Rattle.std.specs.Prelude.{ℕ, ◌+◌, ◌-◌, ◌*◌, ◌/◌, List, [], length}
use Rattle.fv_base.specs.Words.{field}
use Rattle.fv_survey.specs.declared.parts.Parts.{Parts}
use Rattle.fv_survey.specs.declared.pieces.Layout.{Layout}
use Rattle.fv_survey.specs.declared.systems.Files.{Files}
use Rattle.fv_survey.specs.declared.systems.Files.TheVariants as files

-- where the cells of a body end that begins at the offset `first` of a volume of n bytes. The last bytes of a body
-- whose length is not a multiple of 8 are not read as cells
abbrev pub cells_end : ℕ → ℕ → ℕ
cells_end first n = first + (n - first) / 8 * 8

-- how the cells of the body are read
abbrev pub layout_of : Parts → Layout
layout_of parts = record { files = parts.files; polarity = parts.polarity; is_cut = parts.is_cut }

-- the bytes of the cells of the volume b, whose body begins at the offset `first`. A variable store and a volume with
-- an unknown file system have no cells
abbrev pub cells_by : Files → ℕ → List ℕ → List ℕ
cells_by files.Store first b = []
cells_by files.Unknown first b = []
cells_by _ first b = field first (cells_end first (length b) - first) b
