-- Where the parts of a volume lie.
use Rattle.std.specs.Prelude.{◌≡◌, ◌≤◌, ℕ}
use Rattle.fv_survey.specs.declared.parts.Parts.{Parts}

-- the parts lie one after the other within the n bytes of the volume, and an extended header that has no bytes lies at
-- the end of the header
pub record PartsLie (n : ℕ) (p : Parts) : Type 0 where
  pub header : 56 ≤ p.header
  pub ext : p.header ≤ p.ext
  pub end : p.ext ≤ p.ext_end
  pub first : p.ext_end ≤ p.first
  pub within : p.first ≤ n
  pub bare : p.ext ≡ p.ext_end → p.ext ≡ p.header
