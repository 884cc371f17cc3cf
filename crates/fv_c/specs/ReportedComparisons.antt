-- The comparison of two volumes, as it is reported to C.
use Rattle.std.specs.Prelude.{◌≡◌, ◌↔◌, ◌≤◌, ℕ, ◌-◌, List, length, take}
use Rattle.fv_compare.specs.Words.{compare_line}
use Rattle.fv_tree.specs.Words.{Differs, Meaning, difference}
use Rattle.fv_c.specs.declared.compare.FvComparison.{FvComparison}

-- the text of a comparison: the line of `compare` without the line feed at its end
abbrev pub compare_text : Differs → List ℕ
compare_text d = take (length (compare_line d) - 1) (compare_line d)

-- `found` reports whether two volumes have the same meaning, and how long the text of their comparison is
pub record IsReported (m k : Meaning) (found : FvComparison) : Type 0 where
  pub same : (found.same ≡ 1) ↔ (m ≡ k)
  pub flag : found.same ≤ 1
  pub text : found.text_length ≡ length (compare_text (difference m k))
  pub reserved : found.reserved ≡ 0
