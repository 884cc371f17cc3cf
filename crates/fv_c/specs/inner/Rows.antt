-- The caller's buffer after a call, and the result of extracting a part.
use Rattle.std.specs.Prelude.{◌≡◌, ◌⊎◌, ℕ, List, ◌≢◌, ◌<◌, ◌≤◌, ◌++◌, length, drop}
use Rattle.fv_rows.specs.Words.{TreeRow}
use Rattle.fv_c.specs.ReadInputs.{HasParts}
use Rattle.fv_c.specs.ExtractedParts.{IsRowImage}
use Rattle.fv_c.specs.declared.input.Form.{Form}

-- either the result is 0 and the buffer begins with the rows and is unchanged after them, or the result is 256 and the
-- buffer has fewer elements than there are rows and is unchanged
pub record IsWritten {A : Type 0} (rows old new : List A) (result : ℕ) : Type 0 where
  pub ok : result ≡ 0 → new ≡ rows ++ drop (length rows) old
  pub kept : result ≢ 0 → new ≡ old
  pub small : result ≡ 256 → length old < length rows
  pub room : result ≡ 0 → length rows ≤ length old
  pub only : (result ≡ 0) ⊎ (result ≡ 256)

-- the result of a call that extracts the part of one of these rows: the buffer begins with the part (0), or the buffer
-- is too short for the part (256), or there is no such row (257). `after` is the length of the part. If there is no such
-- row, `after` is the length `before` the call
pub record ExtractsRow (row : ℕ) (rows : List TreeRow) (old new : List ℕ) (before after result : ℕ) : Type 0 where
  pub ok : result ≡ 0 → (bytes : List ℕ) × IsRowImage row rows bytes × (after ≡ length bytes) × (new ≡ bytes ++ drop (length bytes) old)
  pub kept : result ≢ 0 → new ≡ old
  pub small : result ≡ 256 → (bytes : List ℕ) × IsRowImage row rows bytes × (after ≡ length bytes) × (length old < length bytes)
  pub absent : result ≡ 257 → (length rows ≤ row) × (after ≡ before)
  pub only : (result ≡ 0) ⊎ ((result ≡ 256) ⊎ (result ≡ 257))

-- the same for the rows of an input
abbrev pub Extracts : Form → (row : ℕ) → (input old new : List ℕ) → (before after result : ℕ) → Type 0
Extracts form row input old new before after result =
    (rows : List TreeRow) × HasParts form input rows × ExtractsRow row rows old new before after result
