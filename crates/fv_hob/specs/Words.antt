-- The door of this crate: other crates import the definitions of its `specs/` from this file. Only definitions of
-- `specs/inner/` are imported directly.
pub use Rattle.fv_hob.specs.Hobs.{HobForm, hob_type, hob_len, has_shape, guid_in, handoff_in, allocation_in}
pub use Rattle.fv_hob.specs.Hobs.{resource_in, kind_by, hob_type_at, hob_len_at, hob_in, IsBlock, IsHob, IsReadHob}
pub use Rattle.fv_hob.specs.Hobs.{hob_fields, hob_spelled, list_spelled}
pub use Rattle.fv_hob.specs.Lists.{JoinsHobs, IsEndHob, IsNotEndHob, BeginWithTable, IsHobList, IsUsedHob, IsReadList}
pub use Rattle.fv_hob.specs.Lists.{span_of, spans_of}
pub use Rattle.fv_hob.specs.HobChecks.{is_hob_len, hob_check, hob_checks, BeginsBlock, BeginsTable, IsFirstHobFault}
pub use Rattle.fv_hob.specs.HobChecks.{hob_out_of_memory, hob_fault_number}
pub use Rattle.fv_hob.specs.WorkedInputs.{table, table_bytes, end_block, end_bytes, header_of_12, long_table, hob_fault_at}
