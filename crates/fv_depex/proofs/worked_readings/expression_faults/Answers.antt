use Rattle.std.proofs.Common.{[], ◌∷◌, ◌++◌, ◌≡◌, List, ℕ, Some, drop, length, refl}
use Rattle.fv_base.proofs.Laws.{first_is}
use Rattle.fv_base.specs.inner.Verdicts.{first_fault}
use Rattle.fv_depex.specs.Words.{IsFirstOpFault, OpPath, op_checks, ops_bytes}
use Rattle.fv_depex.specs.Words.{depex_fault_at, late_before}
use Rattle.fv_depex.specs.declared.fault.DepexFaultKind.{DepexFaultKind}
use Rattle.fv_depex.specs.declared.op.Op.{Op}
use Rattle.fv_depex.specs.declared.op.Op.TheVariants as ops
use Rattle.fv_depex.specs.declared.op.Phase.{Phase}
use Rattle.fv_depex.specs.declared.op_stage.Stage.{Stage}
use Rattle.fv_depex.specs.declared.op_stage.Stage.TheVariants as stages
use Rattle.fv_depex.proofs.worked_readings.expression_faults.Goals as goal

-- after these ops, the first check that fails for the op at the start of r has this kind of fault
fault_after : (phase : Phase) (before : List Op) (stage : Stage) (r : List ℕ) (kind : DepexFaultKind) → OpPath phase stages.Start before stage
    → first_fault (op_checks phase stage r) ≡ Some kind
    → IsFirstOpFault phase (ops_bytes before ++ r) (depex_fault_at kind (length (ops_bytes before)))
fault_after phase before stage r kind read fails = record {
  before = before;
  stage = stage;
  r = r;
  joined = refl;
  read = read;
  place = refl;
  kind_is = first_is (op_checks phase stage r) kind fails;
}

pub returns-clause-short : goal.returns-clause-short
returns-clause-short c = fault_after _ [] stages.Start (0x02 ∷ 0x0a ∷ []) _ refl refl

pub returns-clause-opcode : goal.returns-clause-opcode
returns-clause-opcode c = fault_after _ [] stages.Start (0x09 ∷ 0x06 ∷ 0x08 ∷ []) _ refl refl

pub returns-clause-stack : goal.returns-clause-stack
returns-clause-stack c = fault_after _ [] stages.Start (0x03 ∷ 0x08 ∷ []) _ refl refl

-- TRUE may be the first op, and may follow one value
pub returns-clause-two_values : goal.returns-clause-two_values
returns-clause-two_values c = fault_after _ (ops.True ∷ ops.True ∷ []) (stages.Values 2) (0x08 ∷ []) _ (
  record { known = refl; placed = refl; valued = refl; sized = refl },
  (λ ends. cc),
  (record { known = refl; placed = refl; valued = refl; sized = refl }, (λ ends. cc), refl),
) refl

pub returns-clause-no_end : goal.returns-clause-no_end
returns-clause-no_end c = fault_after _ (ops.True ∷ []) (stages.Values 1) [] _
    (record { known = refl; placed = refl; valued = refl; sized = refl }, (λ ends. cc), refl) refl

pub returns-clause-position : goal.returns-clause-position
returns-clause-position c = fault_after _ (ops.True ∷ []) (stages.Values 1) (drop 1 late_before) _
    (record { known = refl; placed = refl; valued = refl; sized = refl }, (λ ends. cc), refl) refl
