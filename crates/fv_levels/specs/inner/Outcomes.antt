-- The outcome of an attempt as contracts see it.
use Rattle.std.specs.Prelude.{ℕ, List, Result, Ok, Err}
use Rattle.fv_open.specs.declared.way.Way.{Way}
use Rattle.fv_levels.specs.declared.attempt.Outcome.{Outcome}
use Rattle.fv_levels.specs.declared.attempt.Outcome.TheVariants as outcomes
use Rattle.fv_levels.specs.declared.place.Reason.{Reason}

-- the way and the contents, or why the section is not opened
abbrev pub outcome_form : Outcome → Result (Way × List ℕ) Reason
outcome_form (outcomes.Opened way contents) = Ok (way, contents.items)
outcome_form (outcomes.Closed reason) = Err reason
