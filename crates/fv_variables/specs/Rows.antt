-- Rows that tile some bytes, and the variables among rows.
use Rattle.std.specs.Prelude.{◌≡◌, ℕ, ◌+◌, List, [], ◌∷◌, Bool, true, false}
use Rattle.std.specs.List.{filter}
use Rattle.fv_variables.specs.declared.row.Part.{Part}
use Rattle.fv_variables.specs.declared.row.Part.TheVariants as parts
use Rattle.fv_variables.specs.declared.row.Row.{Row}

-- the rows lie one after another, without gaps and overlaps, from the offset `at` to the offset `to`
abbrev pub Follow : ℕ → ℕ → List Row → Type 0
Follow at to [] = at ≡ to
Follow at to (row ∷ rows) = (row.offset ≡ at) × Follow (at + row.length) to rows

-- the row is a variable
abbrev pub is_variable_part : Part → Bool
is_variable_part (parts.Variable v) = true
is_variable_part _ = false

abbrev pub is_variable : Row → Bool
is_variable row = is_variable_part row.part

-- the variables among these rows
abbrev pub variables_of : List Row → List Row
variables_of rows = filter is_variable rows
