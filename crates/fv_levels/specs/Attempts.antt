-- The attempts to open packed sections one after another, within a budget (PI specification, volume 3, sections 3.2.5.2
-- and 3.2.5.7).
use Rattle.std.specs.Prelude.{◌≡◌, ◌⊎◌, ℕ, ◌+◌, ◌-◌, ◌==◌, nat_le, nat_lt, ◌&&◌, if◌then◌else◌, Bool, true, false, List, [], ◌∷◌, ◌++◌, length, Option, Some, None}
use Rattle.std.specs.Prelude.{Result, Ok, Err}
use Rattle.std.specs.List.{flat_map}
use Rattle.std.specs.Result.{result_map_both}
use Rattle.fv_budget.specs.Words.{after_fault, after_opening, contents_limit, nesting_limit}
use Rattle.fv_budget.specs.declared.budget.Budget.{Budget}
use Rattle.fv_open.specs.Words.{is_decoded, opened}
use Rattle.fv_open.specs.declared.way.Way.{Way}
use Rattle.fv_levels.specs.Sources.{LevelsForm, SourceForm}
use Rattle.fv_levels.specs.declared.attempt.Progress.{Progress}
use Rattle.fv_levels.specs.declared.attempt.Stored.{Stored}
use Rattle.fv_levels.specs.declared.place.Closed.{Closed}
use Rattle.fv_levels.specs.declared.place.PackedPlace.{PackedPlace}
use Rattle.fv_levels.specs.declared.place.Reason.{Reason}
use Rattle.fv_levels.specs.declared.place.Reason.TheVariants as reasons

-- ---- one attempt

-- an attempt to open the packed section at a place: the way and the contents, or why the section is not opened
pub record Attempt : Type 0 where
  pub place : PackedPlace
  pub outcome : Result (Way × List ℕ) Reason

-- the outcome for the section b, if its contents may have this many bytes: what the section contains, by the format of
-- its type. If nothing is left of the budget, the section is not opened
abbrev pub outcome_within : Option ℕ → List ℕ → Result (Way × List ℕ) Reason
outcome_within (Some limit) b = result_map_both (λ x. x) (λ fault. reasons.Fault fault) (opened limit b)
outcome_within None b = Err reasons.Spent

-- the outcome for the section b, with this number of opened sections around it, and this budget before it
abbrev pub outcome_of : Budget → ℕ → List ℕ → Result (Way × List ℕ) Reason
outcome_of s depth b = if nat_le nesting_limit depth then Err reasons.TooDeep else outcome_within (contents_limit s) b

-- the budget after an attempt
abbrev pub budget_after : Budget → Result (Way × List ℕ) Reason → Budget
budget_after s (Ok x) = after_opening s (length x.1)
budget_after s (Err (reasons.Fault fault)) = after_fault s fault
budget_after s (Err reason) = s

-- ---- attempts one after another

-- the section at a place lies in the contents of a section that are stored as they are, at its end. (The row of this
-- section comes before the row of the other)
abbrev pub lies_in : Stored → PackedPlace → Bool
lies_in stored place =
    (stored.section.source == place.source)
    && (nat_le (stored.section.length - stored.length) (place.offset - stored.section.offset)
    && nat_lt (place.offset - stored.section.offset) stored.section.length)

-- the contents of a section, if it is opened and they are stored as they are
abbrev pub stored_if : Bool → PackedPlace → ℕ → Option Stored
stored_if true place n = None
stored_if false place n = Some (record { section = place; length = n })

abbrev pub stored_in : PackedPlace → Result (Way × List ℕ) Reason → Option Stored
stored_in place (Ok x) = stored_if (is_decoded x.0) place (length x.1)
stored_in place (Err reason) = None

-- the last of two contents that are stored
abbrev pub last_stored : Option Stored → Option Stored → Option Stored
last_stored before None = before
last_stored before (Some stored) = Some stored

-- what a walk through packed sections begins with: the whole budget, and no contents
abbrev pub first_progress : Budget → Progress
first_progress s = record { left = s; stored = None }

-- the section at a place lies in the last contents that are stored, so it is a section of these contents too
abbrev pub is_covered : Option Stored → PackedPlace → Bool
is_covered None place = false
is_covered (Some stored) place = lies_in stored place

abbrev pub after : Progress → Attempt → Progress
after s a =
    record { left = budget_after s.left a.outcome; stored = last_stored s.stored (stored_in a.place a.outcome) }

-- the attempt to open a section
abbrev pub attempt : Budget → PackedPlace × List ℕ → Attempt
attempt s x = record { place = x.0; outcome = outcome_of s x.0.depth x.1 }

-- the attempts to open some sections, of which each takes place within the budget that the attempts before it leave. No
-- attempt is made for a section that lies in contents that are stored
abbrev pub tried : Progress → List (PackedPlace × List ℕ) → List Attempt
tried s [] = []
tried s (x ∷ xs) =
    if is_covered s.stored x.0 then tried s xs else attempt s.left x ∷ tried (after s (attempt s.left x)) xs

-- how far the attempts are after some attempts
abbrev pub after_all : Progress → List Attempt → Progress
after_all s [] = s
after_all s (a ∷ more) = after_all (after s a) more

-- one of the attempts is the attempt to open the section at this place, or it opens a section whose contents are stored
-- and have this section
abbrev pub IsTried : PackedPlace → List Attempt → Type 0
IsTried place [] = ⊥
IsTried place (a ∷ more) =
    (a.place ≡ place) ⊎ ((is_covered (stored_in a.place a.outcome) place ≡ true) ⊎ IsTried place more)

-- the source that an attempt adds, if the section is opened, and the section if it is not opened
abbrev pub source_if : PackedPlace → Result (Way × List ℕ) Reason → List SourceForm
source_if place (Ok x) =
    record { depth = place.depth + 1; bytes = x.1; origin = Some (record { place = place; way = x.0 }) } ∷ []
source_if place (Err reason) = []

abbrev pub closed_if : PackedPlace → Result (Way × List ℕ) Reason → List Closed
closed_if place (Ok x) = []
closed_if place (Err reason) = record { place = place; reason = reason } ∷ []

-- the sources that attempts add, and the sections that are not opened, in the order of the attempts
abbrev pub sources_of : List Attempt → List SourceForm
sources_of attempts = flat_map (λ a. source_if a.place a.outcome) attempts

abbrev pub closed_of : List Attempt → List Closed
closed_of attempts = flat_map (λ a. closed_if a.place a.outcome) attempts

-- the sources and the sections that are not opened, after these attempts
abbrev pub levels_with : LevelsForm → List Attempt → LevelsForm
levels_with w attempts = record { sources = w.sources ++ sources_of attempts; closed = w.closed ++ closed_of attempts }
