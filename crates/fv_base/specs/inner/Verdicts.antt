-- The result of a table of checks, as the code computes it.
use Rattle.std.specs.Prelude.{if◌then◌else◌, List, [], ◌∷◌, Option, None, Some, Result, Ok, Err}
use Rattle.fv_base.specs.Checks.{Check}

-- the fault of the first check that does not hold
abbrev pub first_fault : {F : Type 0} → List (Check F) → Option F
first_fault [] = None
first_fault (c ∷ cs) = if c.holds then first_fault cs else Some c.fault

-- the fault if there is one, otherwise the value
abbrev pub verdict_by : {A F : Type 0} → Option F → A → Result A F
verdict_by None a = Ok a
verdict_by (Some f) a = Err f
