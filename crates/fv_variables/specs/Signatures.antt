-- Signature lists, which the variables PK, KEK, db and dbx have as data (UEFI specification 2.10, section 32.4.1), and the
-- steps of their tolerant reading.
use Rattle.std.specs.Prelude.{ℕ, ◌+◌, ◌-◌, ◌==◌, nat_le, ◌&&◌, Bool, if◌then◌else◌, List, length, None, Some}
use Rattle.fv_base.specs.Words.{field, le_at, guid_of}
use Rattle.fv_variables.specs.declared.row.Finding.{Finding}
use Rattle.fv_variables.specs.declared.row.Finding.TheVariants as findings
use Rattle.fv_variables.specs.declared.row.Part.TheVariants as parts
use Rattle.fv_variables.specs.declared.signatures.ListHeader.{ListHeader}
use Rattle.fv_variables.specs.declared.step.Reading.{Reading}
use Rattle.fv_variables.specs.declared.step.Reading.TheVariants as readings
use Rattle.fv_variables.specs.declared.step.Step.{Step}

-- the fields of the header of a list (EFI_SIGNATURE_LIST) at their offsets
abbrev pub list_in : List ℕ → ListHeader
list_in b = record {
  signature_type = guid_of (field 0 16 b);
  list_size = le_at 16 4 b;
  header_size = le_at 20 4 b;
  signature_size = le_at 24 4 b;
}

-- a list begins with these bytes: there is a header, a signature has room for its owner, the list has room for the
-- header and SignatureHeader, and lies within the bytes
abbrev pub has_list_sizes : List ℕ → Bool
has_list_sizes b =
    nat_le 28 (length b) && (nat_le 16 (le_at 24 4 b) && (nat_le (28 + le_at 20 4 b) (le_at 16 4 b) && nat_le (le_at 16 4 b) (length b)))

-- how the bytes after a part of a list are read, of which `left` bytes are left
abbrev pub within_list : ℕ → ℕ → Reading
within_list left size = if left == 0 then readings.Lists else readings.List left size

-- n bytes that are not read, after which a list may begin
abbrev pub passed_step : Finding → ℕ → Step
passed_step finding n = record { part = parts.Unread; finding = Some finding; length = n; next = readings.Lists }

-- the header of a list, with SignatureHeader; or all bytes are unread
abbrev pub list_step : List ℕ → Step
list_step b =
    if has_list_sizes b
    then record {
      part = parts.ListHeader (list_in b);
      finding = None;
      length = 28 + le_at 20 4 b;
      next = within_list (le_at 16 4 b - (28 + le_at 20 4 b)) (le_at 24 4 b);
    }
    else passed_step findings.ListSize (length b)

-- a signature of `size` bytes (EFI_SIGNATURE_DATA) in a list, of which `left` bytes are left; or these bytes are unread
abbrev pub signature_step : ℕ → ℕ → List ℕ → Step
signature_step left size b =
    if nat_le size left
    then record {
      part = parts.Signature (guid_of (field 0 16 b));
      finding = None;
      length = size;
      next = within_list (left - size) size;
    }
    else passed_step findings.SignatureSize left
