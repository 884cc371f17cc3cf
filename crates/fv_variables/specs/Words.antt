-- The door of this crate: other crates import the definitions of its `specs/` from this file. Only definitions of
-- `specs/inner/` are imported directly.
pub use Rattle.fv_variables.specs.Format.{header_in, header_len, sizes_at, authentication_in, authentication_by, variable_in}
pub use Rattle.fv_variables.specs.Format.{has_start_id, is_unfinished, header_len_by, variable_len, name_in, data_in, status_by}
pub use Rattle.fv_variables.specs.Signs.{store_guid, working_guid, sign_of, sign_by, is_sign, begins_sign, first_sign}
pub use Rattle.fv_variables.specs.Signatures.{list_in, has_list_sizes, within_list, passed_step, list_step, signature_step}
pub use Rattle.fv_variables.specs.Reading.{finding_number, IsRead, within, unread_step, plain_step, has_store_size, store_end}
pub use Rattle.fv_variables.specs.Reading.{header_finding, header_step, has_queue_size, queue_finding, working_step, gap_step, sign_step}
pub use Rattle.fv_variables.specs.Reading.{outside_step, filler_after, part_step, variable_step, chain_step, filler_step}
pub use Rattle.fv_variables.specs.Reading.{store_step, step_at, row_at, rows_up_to, rows_left}
unfoldable pub use Rattle.fv_variables.specs.Reading.{rows_of, signature_rows}
pub use Rattle.fv_variables.specs.Rows.{Follow, is_variable_part, is_variable, variables_of}
pub use Rattle.fv_variables.specs.Honesty.{Around, Nowhere, InStore, InList, LiesIn, LiesInList, EndsList, StoreBreaks, NoSign, UnreadBreaks, SaysAs, around_after, IsHonest}
pub use Rattle.fv_variables.specs.Stores.{IsVariable, Chained, BeginsStore, IsStore, fields_with, fields_of, AreRead}
pub use Rattle.fv_variables.specs.SignatureLists.{SignatureForm, JoinsSignatures, JoinsLists, all_signatures, signatures_with}
pub use Rattle.fv_variables.specs.SignatureLists.{signatures_of, AreSignatures}
