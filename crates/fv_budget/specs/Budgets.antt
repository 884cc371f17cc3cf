-- The limits of a walk through packed sections: how deep they nest, and how long their contents are. They limit the
-- time and the memory of the walk, because an image is not trusted.
use Rattle.std.specs.Prelude.{ℕ, ◌-◌, ◌==◌, min, max, Bool, true, false, ◌||◌, if◌then◌else◌, Option, Some, None}
use Rattle.fv_base.specs.Words.{volume_limit}
use Rattle.fv_base.specs.declared.fault.Fault.{Fault}
use Rattle.fv_base.specs.declared.fault.FaultKind.{FaultKind}
use Rattle.fv_base.specs.declared.fault.FaultKind.TheVariants as faults
use Rattle.fv_open.specs.declared.fault.OpenFault.{OpenFault}
use Rattle.fv_open.specs.declared.fault.OpenFaultKind.{OpenFaultKind}
use Rattle.fv_open.specs.declared.fault.OpenFaultKind.TheVariants as kinds
use Rattle.fv_budget.specs.declared.budget.Budget.{Budget}

-- the maximum number of packed sections that are nested in each other and opened
abbrev pub nesting_limit : ℕ
nesting_limit = 8

-- the budget at the start of a walk: the contents of all packed sections together have at most 1 GiB
abbrev pub full_budget : Budget
full_budget = record { left = 1073741824; ran_out = false }

-- the maximum length in bytes of the contents of the next section: 256 MiB, or what is left of the budget if that is less.
-- If nothing is left, no further section is opened
abbrev pub contents_limit : Budget → Option ℕ
contents_limit s = if s.left == 0 then None else Some (min s.left volume_limit)

-- the budget after a section whose contents have n bytes. The section counts for at least 64 KiB, because a decoder takes
-- time even if the contents are empty
abbrev pub after_opening : Budget → ℕ → Budget
after_opening s n = record { left = s.left - max n 65536; ran_out = s.ran_out }

-- the number of bytes that a section counts for if it is not opened: 16 MiB, if a decoder may have worked on it until it
-- failed
abbrev pub price : OpenFaultKind → ℕ
price (kinds.Damaged _) = 16777216
price kinds.TooLong = 16777216
price kinds.OutOfMemory = 16777216
price _ = 0

-- whether a section is not opened because memory ran out
abbrev pub ran_out_opening : OpenFaultKind → Bool
ran_out_opening kinds.OutOfMemory = true
ran_out_opening _ = false

-- the budget after a section that is not opened because of a fault
abbrev pub after_fault : Budget → OpenFault → Budget
after_fault s fault = record { left = s.left - price fault.kind; ran_out = s.ran_out || ran_out_opening fault.kind }

-- whether contents are not read as sections because memory ran out
abbrev pub ran_out_reading : FaultKind → Bool
ran_out_reading faults.OutOfMemory = true
ran_out_reading _ = false

-- the budget after contents that are not read as sections because of a fault
abbrev pub after_reading : Budget → Fault → Budget
after_reading s fault = record { left = s.left; ran_out = s.ran_out || ran_out_reading fault.kind }
