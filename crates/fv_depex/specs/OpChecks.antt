-- The checks of an op in order, and the first fault of an expression (PI specification, volume 2, section 10.7).
use Rattle.std.specs.Prelude.{◌≡◌, ◌≢◌, ℕ, ◌+◌, ◌-◌, ◌==◌, nat_le, ◌&&◌, ◌||◌, not, Bool, true, if◌then◌else◌, List, []}
use Rattle.std.specs.Prelude.{◌∷◌, ◌++◌, length, slice_index}
use Rattle.fv_base.specs.Words.{Check, IsFirstFault}
use Rattle.fv_depex.specs.declared.fault.DepexFault.{DepexFault}
use Rattle.fv_depex.specs.declared.fault.DepexFaultKind.{DepexFaultKind}
use Rattle.fv_depex.specs.declared.fault.DepexFaultKind.TheVariants as kinds
use Rattle.fv_depex.specs.declared.op.Op.{Op}
use Rattle.fv_depex.specs.declared.op.Op.TheVariants as ops
use Rattle.fv_depex.specs.declared.op.Phase.{Phase}
use Rattle.fv_depex.specs.declared.op.Phase.TheVariants.{Pei, Dxe}
use Rattle.fv_depex.specs.declared.op_stage.Stage.{Stage}
use Rattle.fv_depex.specs.declared.op_stage.Stage.TheVariants as stages
use Rattle.fv_depex.specs.Expressions.{carries, op_code, op_operand, ops_bytes, IsSized}

-- whether the phase has this op code: 02 to 08 in PEI, 00 to 09 in DXE
abbrev pub has_code : Phase → ℕ → Bool
has_code Pei code = nat_le 2 code && nat_le code 8
has_code Dxe code = nat_le code 9

-- whether an op with this code is allowed at this stage: BEFORE, AFTER and SOR only as the first op, and only END after
-- BEFORE or AFTER
abbrev pub has_position : Stage → ℕ → Bool
has_position stages.Start code = true
has_position stages.Ordered code = code == 8
has_position (stages.Values n) code = nat_le 2 code && nat_le code 8

-- whether a stack of n values is right for an op with this code: AND and OR need at least two, NOT needs at least one,
-- and END exactly one
abbrev pub has_values : ℕ → ℕ → Bool
has_values n code =
    if (code == 3) || (code == 4) then nat_le 2 n
    else (if code == 5 then nat_le 1 n
    else (if code == 8 then n == 1 else true))

-- whether the number of values on the stack at this stage is right for an op with this code (`has_values`). END after
-- BEFORE or AFTER is an exception: the stack is empty there, and END takes no value
abbrev pub holds_values : Stage → ℕ → Bool
holds_values stages.Start code = has_values 0 code
holds_values stages.Ordered code = (code == 8) || has_values 0 code
holds_values (stages.Values n) code = has_values n code

-- whether r holds the GUID of the op at its start, if that op carries one
abbrev pub has_operand : List ℕ → Bool
has_operand r = not (carries (slice_index r 0)) || nat_le 17 (length r)

-- a check of an op: whether it holds, and the kind of its fault
abbrev pub op_check : Bool → DepexFaultKind → Check DepexFaultKind
op_check holds kind = record { holds = holds; fault = kind }

-- the checks of the op at the start of r, in order
abbrev pub op_checks : Phase → Stage → List ℕ → List (Check DepexFaultKind)
op_checks phase stage r =
    op_check (nat_le 1 (length r)) kinds.NoEnd
    ∷ op_check (has_code phase (slice_index r 0)) kinds.Opcode
    ∷ op_check (has_position stage (slice_index r 0)) kinds.Position
    ∷ op_check (has_operand r) kinds.Short
    ∷ op_check (holds_values stage (slice_index r 0)) kinds.Stack
    ∷ []

-- the number of values on the stack after an op, if there were n before it
abbrev pub values_after : ℕ → Op → ℕ
values_after n (ops.Push g) = n + 1
values_after n ops.True = n + 1
values_after n ops.False = n + 1
values_after n ops.And = n - 1
values_after n ops.Or = n - 1
values_after n _ = n

-- the number of values on the stack at a stage
abbrev pub values_of : Stage → ℕ
values_of (stages.Values n) = n
values_of _ = 0

-- the stage after an op: BEFORE or AFTER has been read, or the stack holds a number of values
abbrev pub stage_after : Stage → Op → Stage
stage_after stage (ops.Before g) = stages.Ordered
stage_after stage (ops.After g) = stages.Ordered
stage_after stage o = stages.Values (values_after (values_of stage) o)

-- the phase allows the op o at this stage
pub record OpFits (phase : Phase) (stage : Stage) (o : Op) : Type 0 where
  pub known : has_code phase (op_code o) ≡ true
  pub placed : has_position stage (op_code o) ≡ true
  pub valued : holds_values stage (op_code o) ≡ true
  pub sized : IsSized o

-- r begins with the op o, which is allowed at this stage
pub record BeginsOp (phase : Phase) (stage : Stage) (o : Op) (r : List ℕ) : Type 0 where
  pub fits : OpFits phase stage o
  pub rest : List ℕ
  pub joined : r ≡ op_code o ∷ (op_operand o ++ rest)

-- b begins with an op that is allowed as the first op
abbrev pub BeginsFirstOp : Phase → List ℕ → Type 0
BeginsFirstOp phase b = (o : Op) × BeginsOp phase stages.Start o b

-- no op is END, and each op is allowed at the stage after the previous op; `final` is the stage after the last op
abbrev pub OpPath : Phase → Stage → List Op → Stage → Type 0
OpPath phase stage [] final = stage ≡ final
OpPath phase stage (o ∷ os) final = OpFits phase stage o × (o ≢ ops.End) × OpPath phase (stage_after stage o) os final

-- b begins with allowed ops, none of them END, up to the fault's offset; the fault's kind comes from the first check
-- that fails for the op there
pub record IsFirstOpFault (phase : Phase) (b : List ℕ) (fault : DepexFault) : Type 0 where
  pub before : List Op
  pub stage : Stage
  pub r : List ℕ
  pub joined : b ≡ ops_bytes before ++ r
  pub read : OpPath phase stages.Start before stage
  pub place : fault.offset ≡ length (ops_bytes before)
  pub kind_is : IsFirstFault (op_checks phase stage r) fault.kind

-- the fault that is returned when memory runs out: OutOfMemory at offset 0
abbrev pub depex_out_of_memory : DepexFault
depex_out_of_memory = record { kind = kinds.OutOfMemory; offset = 0 }

-- the number of each kind of fault
abbrev pub depex_fault_number : DepexFaultKind → ℕ
depex_fault_number kinds.Short = 1
depex_fault_number kinds.Opcode = 2
depex_fault_number kinds.Stack = 3
depex_fault_number kinds.NoEnd = 4
depex_fault_number kinds.Position = 5
depex_fault_number kinds.OutOfMemory = 6
