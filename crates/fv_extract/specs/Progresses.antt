-- How far a search through packed sections has come: what it may still open, and how many sections it has not read.
use Rattle.std.specs.Prelude.{ℕ, ◌+◌, min}
use Rattle.fv_base.specs.declared.fault.Fault.{Fault}
use Rattle.fv_budget.specs.Words.{after_fault, after_opening, after_reading, full_budget}
use Rattle.fv_open.specs.declared.fault.OpenFault.{OpenFault}
use Rattle.fv_extract.specs.declared.progress.Progress.{Progress}

-- the number of sections after one more section. It is a number of 64 bits, and stays at the largest one
abbrev pub counted : ℕ → ℕ
counted n = min (n + 1) 18446744073709551615

-- the progress at the start of a search
abbrev pub at_start : Progress
at_start = record { budget = full_budget; unread = 0 }

-- the progress after a packed section that the search may not open
abbrev pub skipped : Progress → Progress
skipped s = record { budget = s.budget; unread = counted s.unread }

-- the progress after a packed section was opened, whose contents have n bytes
abbrev pub opened : Progress → ℕ → Progress
opened s n = record { budget = after_opening s.budget n; unread = s.unread }

-- the progress after a packed section that is not opened because of a fault
abbrev pub unopened : Progress → OpenFault → Progress
unopened s fault = record { budget = after_fault s.budget fault; unread = counted s.unread }

-- the progress after contents that are not read as sections because of a fault
abbrev pub not_sections : Progress → Fault → Progress
not_sections s fault = record { budget = after_reading s.budget fault; unread = counted s.unread }
