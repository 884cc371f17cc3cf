-- The portions that a walk meets: they have bytes, they lie within the image, and their rows do not nest too deep.
use Rattle.std.specs.Prelude.{◌≡◌, ℕ, ◌+◌, ◌*◌, ◌^◌, ◌%◌, ◌≤◌, ◌<◌, length, true}
use Rattle.fv_survey.specs.declared.portion.Nesting.{Nesting}
use Rattle.fv_survey.specs.declared.portion.Reading.{Reading}
use Rattle.fv_survey.specs.declared.portion.Reading.TheVariants as readings
use Rattle.fv_survey.specs.Portions.{PortionForm}
use Rattle.fv_survey.specs.Runs.{is_searched}
use Rattle.fv_survey.specs.Tiling.{is_leaf}

-- the rows of a portion that lies so deep, and of all that may still nest in it, have depths below 400. A group takes
-- one level and one row around its sections. An opened volume takes one level and three rows: the volume, a file and a
-- section. A volume that is found has 8 levels of its own. The portion itself has at most k rows around its contents
abbrev pub IsShallow : ℕ → Nesting → Type 0
IsShallow k nest = nest.depth + 3 * nest.levels + 40 * nest.found + k ≤ 400

-- the same for bytes in which only volumes are looked for
abbrev pub IsShallowRun : ℕ → Nesting → Type 0
IsShallowRun k nest = nest.depth + 40 * nest.found + k ≤ 400

-- what the reading asks of n bytes that lie so deep
abbrev pub FitsAs : Reading → Nesting → ℕ → Type 0
FitsAs (readings.Leaf kind findings) nest n = is_leaf kind ≡ true
FitsAs (readings.Run kind) nest n = (is_searched kind ≡ true) × IsShallowRun 0 nest
FitsAs (readings.Lost findings) nest n = IsShallowRun 1 nest
FitsAs readings.Volume nest n = (56 ≤ n) × IsShallow 6 nest
FitsAs (readings.Cells layout) nest n = (n % 8 ≡ 0) × IsShallow 5 nest
FitsAs (readings.Sections odd) nest n = IsShallow 4 nest

-- the portion has bytes, lies within 2 ^ 63 bytes, and fits what it is read as
abbrev pub Fits : PortionForm → Type 0
Fits p = (0 < length p.bytes) × (p.at + length p.bytes < 2 ^ 63) × FitsAs p.reading p.nest (length p.bytes)
