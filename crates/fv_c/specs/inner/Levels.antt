-- The caller's buffers after a call that opens an image.
use Rattle.std.specs.Prelude.{◌≡◌, ◌≢◌, ◌⊎◌, ◌<◌, ◌++◌, ℕ, List, length, drop}
use Rattle.fv_levels.specs.Words.{LevelsForm}
use Rattle.fv_c.specs.ReportedLevels.{all_contents, reported_levels, reported_sections}
use Rattle.fv_c.specs.declared.levels.FvLevels.{FvLevels}
use Rattle.fv_c.specs.declared.levels.FvPacked.{FvPacked}

-- either the result is 0, and each buffer begins with the rows or the contents of these levels and is unchanged after
-- them; or the result is 256, a buffer is too small, and both are unchanged
pub record AreReported (w : LevelsForm) (old_rows new_rows : List FvPacked) (old_bytes new_bytes : List ℕ) (found : FvLevels) (result : ℕ) : Type 0 where
  pub counts : found ≡ reported_levels w
  pub rows : result ≡ 0 → new_rows ≡ reported_sections w ++ drop (length (reported_sections w)) old_rows
  pub bytes : result ≡ 0 → new_bytes ≡ all_contents w.sources ++ drop (length (all_contents w.sources)) old_bytes
  pub kept : result ≢ 0 → (new_rows ≡ old_rows) × (new_bytes ≡ old_bytes)
  pub small : result ≡ 256 → (length old_rows < length (reported_sections w)) ⊎ (length old_bytes < length (all_contents w.sources))
  pub only : (result ≡ 0) ⊎ (result ≡ 256)
