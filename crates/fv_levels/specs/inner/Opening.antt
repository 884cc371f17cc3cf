-- What the steps of `open_all` do.
use Rattle.std.specs.Prelude.{◌≡◌, ◌<◌, ℕ, List, ◌++◌, Result, Ok, Err}
use Rattle.fv_open.specs.declared.way.Way.{Way}
use Rattle.fv_levels.specs.Attempts.{after_all, levels_with, tried}
use Rattle.fv_levels.specs.Sources.{LevelsForm, SourceForm}
use Rattle.fv_levels.specs.declared.attempt.Progress.{Progress}
use Rattle.fv_levels.specs.declared.place.PackedPlace.{PackedPlace}
use Rattle.fv_levels.specs.declared.place.Reason.{Reason}

-- the attempts to open these sections lead from the levels `old` and the progress s to the levels `new` and the progress t
pub record GoesOver (old : LevelsForm) (s : Progress) (xs : List (PackedPlace × List ℕ)) (new : LevelsForm) (t : Progress) : Type 0 where
  pub levels : new ≡ levels_with old (tried s xs)
  pub progress : t ≡ after_all s (tried s xs)

-- a section that is opened is not too deep
abbrev pub HasRoom : ℕ → Result (Way × List ℕ) Reason → Type 0
HasRoom depth (Ok x) = depth < 8
HasRoom depth (Err reason) = Unit {0}

-- the new levels have the sources of the old ones, and maybe more
pub record Continues (old new : LevelsForm) : Type 0 where
  pub more : List SourceForm
  pub sources : new.sources ≡ old.sources ++ more
