-- Why a section is not opened, and where.
use Rattle.std.specs.Prelude.{ℕ}
use Rattle.fv_open.specs.declared.fault.OpenFault.{OpenFault}
use Rattle.fv_open.specs.declared.fault.OpenFaultKind.{OpenFaultKind}
use Rattle.fv_open.specs.declared.fault.OpenFaultKind.TheVariants as kinds

-- a fault of this kind at this offset, in bytes from the first byte of the section
abbrev pub open_fault : OpenFaultKind → ℕ → OpenFault
open_fault kind offset = record { kind = kind; offset = offset }

-- the fault that reports a failed allocation
abbrev pub open_out_of_memory : OpenFault
open_out_of_memory = open_fault kinds.OutOfMemory 0

-- the number of a kind of fault
abbrev pub open_fault_number : OpenFaultKind → ℕ
open_fault_number kinds.Short = 1
open_fault_number kinds.UnknownWay = 2
open_fault_number (kinds.Damaged _) = 3
open_fault_number kinds.Sum = 4
open_fault_number kinds.TooLong = 5
open_fault_number kinds.OutOfMemory = 6
