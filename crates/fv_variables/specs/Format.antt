-- The headers of EDK II's variable stores and of their variables (VariableFormat.h of EDK II, and NameSizeOfVariable of
-- its variable driver). The PI specification says nothing about them.
use Rattle.std.specs.Prelude.{ℕ, ◌+◌, ◌==◌, nat_le, ◌&&◌, ◌||◌, Bool, if◌then◌else◌, List, length, slice_index}
use Rattle.std.specs.Prelude.{Option, None, Some}
use Rattle.fv_base.specs.Words.{field, le_at, guid_of}
use Rattle.fv_variables.specs.declared.format.Authentication.{Authentication}
use Rattle.fv_variables.specs.declared.format.StoreFormat.{StoreFormat}
use Rattle.fv_variables.specs.declared.format.StoreFormat.TheVariants as formats
use Rattle.fv_variables.specs.declared.format.StoreHeader.{StoreHeader}
use Rattle.fv_variables.specs.declared.format.Variable.{Variable}
use Rattle.fv_variables.specs.declared.format.VariableStatus.{VariableStatus}
use Rattle.fv_variables.specs.declared.format.VariableStatus.TheVariants as statuses

-- the fields of the header of a store of this format (VARIABLE_STORE_HEADER) at their offsets
abbrev pub header_in : StoreFormat → List ℕ → StoreHeader
header_in format b =
    record { format = format; size = le_at 16 4 b; formatted = slice_index b 20; state = slice_index b 21 }

-- the length of the header of a variable (VARIABLE_HEADER or AUTHENTICATED_VARIABLE_HEADER), and the offset of NameSize
-- in it, after which DataSize and VendorGuid follow
abbrev pub header_len : StoreFormat → ℕ
header_len formats.Plain = 32
header_len formats.Authenticated = 60

abbrev pub sizes_at : StoreFormat → ℕ
sizes_at formats.Plain = 8
sizes_at formats.Authenticated = 36

-- the fields that only an authenticated variable has, at their offsets; and these fields of a variable of this format
abbrev pub authentication_in : List ℕ → Authentication
authentication_in b = record { monotonic_count = le_at 8 8 b; time_stamp = field 16 16 b; public_key = le_at 32 4 b }

abbrev pub authentication_by : StoreFormat → List ℕ → Option Authentication
authentication_by formats.Plain b = None
authentication_by formats.Authenticated b = Some (authentication_in b)

-- the fields of the header of a variable of this format at their offsets
abbrev pub variable_in : StoreFormat → List ℕ → Variable
variable_in format b = record {
  state = slice_index b 2;
  attributes = le_at 4 4 b;
  authentication = authentication_by format b;
  name_size = le_at (sizes_at format) 4 b;
  data_size = le_at (sizes_at format + 4) 4 b;
  vendor = guid_of (field (sizes_at format + 8) 16 b);
}

-- the bytes begin with StartId, which begins each variable: VARIABLE_DATA
abbrev pub has_start_id : List ℕ → Bool
has_start_id b = nat_le 2 (length b) && (le_at 0 2 b == 0x55aa)

-- the header of the variable was never finished: State, Attributes, NameSize or DataSize has only ones. EDK II then
-- takes both sizes as 0
abbrev pub is_unfinished : Variable → Bool
is_unfinished v =
    (v.state == 0xff) || (v.attributes == 0xffffffff) || (v.name_size == 0xffffffff) || (v.data_size == 0xffffffff)

-- the length of the header of a variable with these fields; and the length of the variable: header, name and data
abbrev pub header_len_by : Option Authentication → ℕ
header_len_by None = 32
header_len_by (Some authentication) = 60

abbrev pub variable_len : Variable → ℕ
variable_len v = header_len_by v.authentication + v.name_size + v.data_size

-- the name and the data in the bytes of a variable
abbrev pub name_in : Variable → List ℕ → List ℕ
name_in v b = field (header_len_by v.authentication) v.name_size b

abbrev pub data_in : Variable → List ℕ → List ℕ
data_in v b = field (header_len_by v.authentication + v.name_size) v.data_size b

-- what the byte State of a variable says: VAR_ADDED is 0x3F, VAR_IN_DELETED_TRANSITION takes away bit 0x01, VAR_DELETED
-- takes away bit 0x02, and VAR_HEADER_VALID_ONLY is 0x7F
abbrev pub status_by : ℕ → VariableStatus
status_by n =
    if n == 0x3f then statuses.Added
    else (if n == 0x3e then statuses.Replaced
    else (if (n == 0x3d) || (n == 0x3c) then statuses.Deleted
    else (if n == 0x7f then statuses.HeaderOnly else statuses.Other)))
