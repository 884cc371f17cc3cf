-- The rows of variable stores and of signature lists, as they are reported to C (VariableFormat.h of EDK II, and UEFI
-- specification 2.10, section 32.4.1).
use Rattle.std.specs.Prelude.{ℕ, List, map, replicate, Option, None, Some}
use Rattle.fv_base.specs.Words.{bytes_of}
use Rattle.fv_base.specs.declared.guid.Guid.{Guid}
use Rattle.fv_variables.specs.Words.{finding_number, header_len_by, rows_of, signature_rows, status_by}
use Rattle.fv_variables.specs.declared.format.Authentication.{Authentication}
use Rattle.fv_variables.specs.declared.format.StoreFormat.{StoreFormat}
use Rattle.fv_variables.specs.declared.format.StoreFormat.TheVariants as formats
use Rattle.fv_variables.specs.declared.format.StoreHeader.{StoreHeader}
use Rattle.fv_variables.specs.declared.format.Variable.{Variable}
use Rattle.fv_variables.specs.declared.format.VariableStatus.{VariableStatus}
use Rattle.fv_variables.specs.declared.format.VariableStatus.TheVariants as statuses
use Rattle.fv_variables.specs.declared.row.Finding.{Finding}
use Rattle.fv_variables.specs.declared.row.Part.{Part}
use Rattle.fv_variables.specs.declared.row.Part.TheVariants as parts
use Rattle.fv_variables.specs.declared.row.Row.{Row}
use Rattle.fv_variables.specs.declared.signatures.ListHeader.{ListHeader}
use Rattle.fv_c.specs.declared.variables.FvVariableRow.{FvVariableRow}

-- the number of what a row is about
abbrev pub part_number : Part → ℕ
part_number (parts.StoreHeader header) = 1
part_number (parts.Variable variable) = 2
part_number parts.Unfinished = 3
part_number parts.Filler = 4
part_number parts.Free = 5
part_number parts.WorkingBlock = 6
part_number (parts.ListHeader list) = 7
part_number (parts.Signature owner) = 8
part_number parts.Unread = 9

-- the number of a finding, or 0 if there is none
abbrev pub optional_finding_number : Option Finding → ℕ
optional_finding_number None = 0
optional_finding_number (Some finding) = finding_number finding

-- the number of the format of the variables of a store
abbrev pub format_number : StoreFormat → ℕ
format_number formats.Plain = 1
format_number formats.Authenticated = 2

-- the number of what State of a variable says
abbrev pub status_number : VariableStatus → ℕ
status_number statuses.Added = 1
status_number statuses.Replaced = 2
status_number statuses.Deleted = 3
status_number statuses.HeaderOnly = 4
status_number statuses.Other = 5

-- the report of a row without the fields of its header
abbrev pub bare_row : Row → FvVariableRow
bare_row r = record {
  offset = r.offset;
  length = r.length;
  monotonic_count = 0;
  part = part_number r.part;
  finding = optional_finding_number r.finding;
  format = 0;
  size = 0;
  state = 0;
  status = 0;
  attributes = 0;
  header_length = 0;
  name_size = 0;
  data_size = 0;
  public_key = 0;
  formatted = 0;
  guid = replicate 16 0;
  time_stamp = replicate 16 0;
}

-- a report with the fields of the header of a store
abbrev pub store_row : StoreHeader → FvVariableRow → FvVariableRow
store_row header bare = record bare {
  format = format_number header.format;
  size = header.size;
  state = header.state;
  formatted = header.formatted;
}

-- a report with the fields that only an authenticated variable has
abbrev pub authenticated_row : Option Authentication → FvVariableRow → FvVariableRow
authenticated_row None bare = bare
authenticated_row (Some it) bare =
    record bare { monotonic_count = it.monotonic_count; public_key = it.public_key; time_stamp = it.time_stamp }

-- a report with the fields of the header of a variable
abbrev pub variable_row : Variable → FvVariableRow → FvVariableRow
variable_row variable bare = record (authenticated_row variable.authentication bare) {
  state = variable.state;
  status = status_number (status_by variable.state);
  attributes = variable.attributes;
  header_length = header_len_by variable.authentication;
  name_size = variable.name_size;
  data_size = variable.data_size;
  guid = bytes_of variable.vendor;
}

-- a report with the fields of the header of a signature list; and a report with the owner of a signature
abbrev pub list_row : ListHeader → FvVariableRow → FvVariableRow
list_row list bare =
    record bare { size = list.list_size; data_size = list.signature_size; guid = bytes_of list.signature_type }

abbrev pub signature_row : Guid → FvVariableRow → FvVariableRow
signature_row owner bare = record bare { guid = bytes_of owner }

-- a report with the fields that its part has; and the report of a row
abbrev pub with_fields : Part → FvVariableRow → FvVariableRow
with_fields (parts.StoreHeader header) bare = store_row header bare
with_fields (parts.Variable variable) bare = variable_row variable bare
with_fields (parts.ListHeader list) bare = list_row list bare
with_fields (parts.Signature owner) bare = signature_row owner bare
with_fields _ bare = bare

abbrev pub reported_variable_row : Row → FvVariableRow
reported_variable_row r = with_fields r.part (bare_row r)

-- the reports of the rows of some bytes that may contain variable stores, in the order of their offsets
abbrev pub reported_variables : List ℕ → List FvVariableRow
reported_variables b = map reported_variable_row (rows_of b)

-- the reports of the rows of some bytes that should be signature lists, in the order of their offsets
abbrev pub reported_signatures : List ℕ → List FvVariableRow
reported_signatures b = map reported_variable_row (signature_rows b)
