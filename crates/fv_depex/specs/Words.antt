-- The door of this crate: other crates import the definitions of its `specs/` from this file. Only definitions of
-- `specs/inner/` are imported directly.
pub use Rattle.fv_depex.specs.Expressions.{Expression, always, never, installed, negated, both, either, postfix, IsTree}
pub use Rattle.fv_depex.specs.Expressions.{IsOrder, op_code, op_operand, ops_bytes, carries, operand_len, IsSized, Spells}
pub use Rattle.fv_depex.specs.Expressions.{is_among, truth, DepexForm, IsReadDepex}
pub use Rattle.fv_depex.specs.OpChecks.{has_code, has_position, has_values, holds_values, has_operand, op_check, op_checks}
pub use Rattle.fv_depex.specs.OpChecks.{values_after, values_of, stage_after, OpFits, BeginsOp, BeginsFirstOp, OpPath}
pub use Rattle.fv_depex.specs.OpChecks.{IsFirstOpFault, depex_out_of_memory, depex_fault_number}
pub use Rattle.fv_depex.specs.WorkedInputs.{guid, not_installed, late_before, depex_fault_at}
