-- The arguments that C passes for a dependency expression, and the report on it (PI specification, volume 2, section
-- 10.7).
use Rattle.std.specs.Prelude.{ℕ, ◌+◌, zero, suc, List, Option, Some, None, Bool, true, false}
use Rattle.fv_base.specs.declared.guid.Guid.{Guid}
use Rattle.fv_depex.specs.Words.{Spells, IsFirstOpFault, depex_fault_number}
use Rattle.fv_depex.specs.declared.fault.DepexFault.{DepexFault}
use Rattle.fv_depex.specs.declared.fault.DepexFaultKind.{DepexFaultKind}
use Rattle.fv_depex.specs.declared.fault.DepexFaultKind.TheVariants as kinds
use Rattle.fv_depex.specs.declared.op.Op.{Op}
use Rattle.fv_depex.specs.declared.op.Phase.{Phase}
use Rattle.fv_depex.specs.declared.op.Phase.TheVariants as phases
use Rattle.fv_c.specs.declared.depex.FvGuid.{FvGuid}
use Rattle.fv_c.specs.declared.reports.FvFault.{FvFault}

-- the GUID with the bytes that C passed
abbrev pub passed_guid : FvGuid → Guid
passed_guid g = record { bytes = g.bytes }

-- the number for a truth value: 1 for true, 0 for false, and 2 if there is none (BEFORE and AFTER have none)
abbrev pub reported_truth : Option Bool → ℕ
reported_truth (Some true) = 1
reported_truth (Some false) = 0
reported_truth None = 2

-- the phase with this number: 0 is PEI, and any other number is DXE and MM
abbrev pub phase_by_number : ℕ → Phase
phase_by_number zero = phases.Pei
phase_by_number (suc n) = phases.Dxe

-- the result of a call that stops at a fault of an expression: 24 if memory ran out, and otherwise 512 plus the number
-- of the fault's kind
abbrev pub depex_result : DepexFaultKind → ℕ
depex_result kinds.OutOfMemory = 24
depex_result kind = 512 + depex_fault_number kind

-- the report of a fault of an expression
abbrev pub reported_depex_fault : DepexFault → FvFault
reported_depex_fault f = record { offset = f.offset; result = depex_result f.kind; depth = 0; input = 0; reserved = 0 }

-- the bytes are not an expression of the phase, and this is the first fault
pub record NoExpression (phase : Phase) (b : List ℕ) (f : DepexFault) : Type 0 where
  pub none : (ops : List Op) (rest : List ℕ) → Spells phase ops rest b → ⊥
  pub first : IsFirstOpFault phase b f
