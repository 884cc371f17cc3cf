-- The lines and the status of a run that extracts a part, and the status of a run through packed sections.
use Rattle.std.specs.Prelude.{ℕ, ◌==◌, Bool, true, false, if◌then◌else◌, List, [], ◌++◌, Option, Some, None, codes, decimal}
use Rattle.fv_extract.specs.declared.opened_search.Search.{Search}
use Rattle.fv_extract.specs.declared.outcome.Outcome.{Outcome}
use Rattle.fv_extract.specs.declared.outcome.Outcome.TheVariants.{Put, NotFound, NotSectioned}
use Rattle.fv_command.specs.declared.status.Status.{Status}
use Rattle.fv_command.specs.declared.status.Status.TheVariants.{Done, Different, Incomplete}

-- the line which says that a part does not exist, or nothing after the bytes of a part
abbrev pub part_line : Outcome → List ℕ
part_line Put = []
part_line NotFound = codes "not found\n"
part_line NotSectioned = codes "not sectioned\n"

-- the status of an extraction: Done if the bytes of the part were put, otherwise Different
abbrev pub part_status : Outcome → Status
part_status Put = Done
part_status NotFound = Different
part_status NotSectioned = Different

-- the line for a file that was not found, where the contents of n packed sections were not searched
abbrev pub absent_line : (n : ℕ) → List ℕ
absent_line n =
    if n == 0 then codes "not found\n" else codes "not found, " ++ (decimal n ++ codes " sections not searched\n")

-- the line of an extraction through packed sections, after the bytes of the part, by what was found and the number of
-- packed sections whose contents were not searched
abbrev pub found_line : Option Outcome → (n : ℕ) → List ℕ
found_line (Some outcome) n = part_line outcome
found_line None n = absent_line n

abbrev pub search_line : Search → List ℕ
search_line s = found_line s.outcome s.unread

-- the status of a run through packed sections: Incomplete if memory ran out there, otherwise the given status
abbrev pub opened_status : (ran_out : Bool) → Status → Status
opened_status true status = Incomplete
opened_status false status = status

-- the status of an extraction through packed sections: Incomplete if memory ran out in a packed section, otherwise the
-- status of an extraction, or Different if no file was found
abbrev pub found_status : Option Outcome → Status
found_status (Some outcome) = part_status outcome
found_status None = Different

abbrev pub search_status : Search → Status
search_status s = opened_status s.ran_out (found_status s.outcome)
