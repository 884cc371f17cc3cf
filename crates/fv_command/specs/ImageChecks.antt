-- The lines and the status of `check --all`.
use Rattle.std.specs.Prelude.{ℕ, Bool, true, false, List, ◌++◌, codes, if◌then◌else◌}
use Rattle.std.specs.List.{list_any}
use Rattle.fv_canon.specs.declared.image_check.VolumeCheck.{VolumeCheck}
use Rattle.fv_canon.specs.declared.image_check.VolumeOutcome.{VolumeOutcome}
use Rattle.fv_canon.specs.declared.image_check.VolumeOutcome.TheVariants.{Canonical, NotCanonical, Rejected}
use Rattle.fv_lines.specs.Words.{verdict_line, volume_place}
use Rattle.fv_command.specs.Endings.{fault_line}
use Rattle.fv_command.specs.declared.status.Status.{Status}
use Rattle.fv_command.specs.declared.status.Status.TheVariants.{Done, Different, Faulty}

-- the end of the line of a volume of an image: whether the volume is its own canonical image, or its fault
abbrev pub outcome_line : VolumeOutcome → List ℕ
outcome_line Canonical = verdict_line true
outcome_line NotCanonical = verdict_line false
outcome_line (Rejected fault) = fault_line fault

-- the line of a volume of an image: its place, and the outcome of its check
abbrev pub checked_line : VolumeCheck → List ℕ
checked_line check = volume_place check.offset check.length ++ (codes " " ++ outcome_line check.outcome)

-- the volume is rejected
abbrev pub is_rejected : VolumeOutcome → Bool
is_rejected (Rejected fault) = true
is_rejected outcome = false

-- the volume is accepted but is not its own canonical image
abbrev pub is_not_canonical : VolumeOutcome → Bool
is_not_canonical NotCanonical = true
is_not_canonical outcome = false

-- the worst check determines the status: Faulty if a volume is rejected, otherwise Different if a volume is not its own
-- canonical image, otherwise Done
abbrev pub checks_status : List VolumeCheck → Status
checks_status checks =
    if list_any (λ c. is_rejected c.outcome) checks then Faulty
    else (if list_any (λ c. is_not_canonical c.outcome) checks then Different else Done)
