-- Faults and file systems, as they are reported to C.
use Rattle.std.specs.Prelude.{ℕ}
use Rattle.fv_base.specs.Words.{fault_number}
use Rattle.fv_base.specs.declared.fault.Fault.{Fault}
use Rattle.fv_base.specs.declared.flash.FileSystem.{FileSystem}
use Rattle.fv_base.specs.declared.flash.FileSystem.TheVariants as systems
pub use Rattle.fv_head.specs.Words.{BeginsWithHeader}
use Rattle.fv_c.specs.declared.reports.FvFault.{FvFault}

-- the number of a file system: 2 for FFS2, 3 for FFS3
abbrev pub system_number : FileSystem → ℕ
system_number systems.Ffs2 = 2
system_number systems.Ffs3 = 3

-- the report of a fault in one of two inputs: the number of the input (0 is the first, 1 the second), the place of the
-- fault, and the number of its kind
abbrev pub reported_fault_of : ℕ → Fault → FvFault
reported_fault_of input f = record {
  offset = f.place.offset;
  result = fault_number f.kind;
  depth = f.place.depth;
  input = input;
  reserved = 0;
}

-- the report of a fault in the only input of a call, or in the first of two inputs
abbrev pub reported_fault : Fault → FvFault
reported_fault f = reported_fault_of 0 f

-- the report that there is no fault: all fields are 0
abbrev pub no_fault : FvFault
no_fault = record { offset = 0; result = 0; depth = 0; input = 0; reserved = 0 }
