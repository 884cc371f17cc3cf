-- Headers without findings.
use Rattle.std.specs.Prelude.{◌≡◌, ◌≢◌, ℕ, true, List}
use Rattle.std.specs.List.{AllByRecursion}
use Rattle.fv_base.specs.Words.{field}
use Rattle.fv_base.specs.declared.fault.FaultKind.TheVariants as kinds
use Rattle.fv_head.specs.Words.{head_checks}
use Rattle.fv_survey.specs.Systems.{is_allowed}

-- the file system is FFS2, FFS3 or a variable store, and the strict reader's checks of the header hold, with or without
-- its check of the file system, which the header of a variable store breaks
pub record IsSound (b : List ℕ) : Type 0 where
  pub system : is_allowed (field 16 16 b) ≡ true
  pub checks : AllByRecursion (λ c. c.fault.kind ≢ kinds.FileSystem → c.holds ≡ true) (head_checks b)
