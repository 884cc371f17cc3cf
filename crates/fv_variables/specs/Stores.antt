-- Stores as EDK II writes them (VariableFormat.h of EDK II).
use Rattle.std.specs.Prelude.{◌≡◌, ℕ, ◌-◌, ◌≤◌, true, false, List, [], ◌∷◌, ◌++◌, length, drop, slice_index, None}
use Rattle.std.specs.List.{AllByRecursion}
use Rattle.fv_base.specs.Words.{AllAre, field, le_at}
use Rattle.fv_variables.specs.declared.format.StoreFormat.{StoreFormat}
use Rattle.fv_variables.specs.declared.format.Variable.{Variable}
use Rattle.fv_variables.specs.declared.row.Part.{Part}
use Rattle.fv_variables.specs.declared.row.Part.TheVariants as parts
use Rattle.fv_variables.specs.declared.row.Row.{Row}
use Rattle.fv_variables.specs.Format.{has_start_id, header_len, is_unfinished, variable_in, variable_len}
use Rattle.fv_variables.specs.Reading.{filler_after, store_end}
use Rattle.fv_variables.specs.Signs.{store_guid}

-- c is a variable with these fields: a header that was finished, the name and the data
pub record IsVariable (format : StoreFormat) (v : Variable) (c : List ℕ) : Type 0 where
  pub start : has_start_id c ≡ true
  pub headed : header_len format ≤ length c
  pub fields : v ≡ variable_in format c
  pub finished : is_unfinished v ≡ false
  pub sized : length c ≡ variable_len v

-- b is these variables, one after another, each with filler up to a multiple of 4 after it, and then `rest`
abbrev pub Chained : StoreFormat → List Variable → List ℕ → List ℕ → Type 0
Chained format [] rest b = b ≡ rest
Chained format (v ∷ vs) rest b =
    (c : List ℕ) × (filler : List ℕ) × (after : List ℕ) × (b ≡ c ++ (filler ++ after)) × IsVariable format v c
    × (length filler ≡ filler_after (length c) (length (filler ++ after))) × Chained format vs rest after

-- a store with these variables, and then any other bytes, begins with the bytes b: the header, of 28 bytes, and then the
-- variables. The store ends where Size says, if that is possible, and otherwise where b ends
pub record BeginsStore (format : StoreFormat) (vs : List Variable) (b : List ℕ) : Type 0 where
  pub rest : List ℕ
  pub long : 32 ≤ length b
  pub signature : field 0 16 b ≡ store_guid format
  pub chained : Chained format vs rest (field 28 (store_end b - 28) b)

-- b is a store with these variables, which EDK II uses: the header, of 28 bytes, then the variables, and then erased
-- bytes up to Size
pub record IsStore (format : StoreFormat) (vs : List Variable) (b : List ℕ) : Type 0 where
  pub rest : List ℕ
  pub long : 32 ≤ length b
  pub signature : field 0 16 b ≡ store_guid format
  pub sized : le_at 16 4 b ≡ length b
  pub formatted : slice_index b 20 ≡ 0x5a
  pub healthy : slice_index b 21 ≡ 0xfe
  pub chained : Chained format vs rest (drop 28 b)
  pub erased : AllAre 0xff rest

-- the fields of the variables among these rows
abbrev pub fields_with : Part → List Variable → List Variable
fields_with (parts.Variable v) vs = v ∷ vs
fields_with _ vs = vs

abbrev pub fields_of : List Row → List Variable
fields_of [] = []
fields_of (row ∷ rows) = fields_with row.part (fields_of rows)

-- these rows have no findings, and their variables are exactly these
abbrev pub AreRead : List Row → List Variable → Type 0
AreRead rows vs = (fields_of rows ≡ vs) × AllByRecursion (λ row. row.finding ≡ None) rows
