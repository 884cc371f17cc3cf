-- The tolerant reading of bytes that may contain variable stores, in steps: what the first row says, how long it is, and
-- how the bytes after it are read (VariableFormat.h and SystemNvDataGuid.h of EDK II).
use Rattle.std.specs.Prelude.{ℕ, zero, suc, ◌+◌, ◌-◌, ◌%◌, ◌≤◌, ◌<◌, ◌==◌, nat_le, nat_lt, min, ◌&&◌, not, Bool, if◌then◌else◌}
use Rattle.std.specs.Prelude.{List, [], ◌∷◌, length, take, drop, slice_index, Option, None, Some}
use Rattle.fv_base.specs.Words.{all_are, le_at}
use Rattle.fv_variables.specs.declared.format.StoreFormat.{StoreFormat}
use Rattle.fv_variables.specs.declared.format.Variable.{Variable}
use Rattle.fv_variables.specs.declared.row.Finding.{Finding}
use Rattle.fv_variables.specs.declared.row.Finding.TheVariants as findings
use Rattle.fv_variables.specs.declared.row.Part.{Part}
use Rattle.fv_variables.specs.declared.row.Part.TheVariants as parts
use Rattle.fv_variables.specs.declared.row.Row.{Row}
use Rattle.fv_variables.specs.declared.sign.Sign.{Sign}
use Rattle.fv_variables.specs.declared.sign.Sign.TheVariants as signs
use Rattle.fv_variables.specs.declared.step.Reading.{Reading}
use Rattle.fv_variables.specs.declared.step.Reading.TheVariants as readings
use Rattle.fv_variables.specs.declared.step.Step.{Step}
use Rattle.fv_variables.specs.Format.{has_start_id, header_in, header_len, is_unfinished, variable_in}
use Rattle.fv_variables.specs.Signs.{first_sign, sign_by}
use Rattle.fv_variables.specs.Signatures.{list_step, signature_step}

-- the number of each finding
abbrev pub finding_number : Finding → ℕ
finding_number findings.StoreSize = 1
finding_number findings.StoreState = 2
finding_number findings.StartId = 3
finding_number findings.VariableSize = 4
finding_number findings.QueueSize = 5
finding_number findings.NoStore = 6
finding_number findings.ListSize = 7
finding_number findings.SignatureSize = 8

-- n bytes can be read so: of a store or a list, at least one byte and at most all bytes are left; the filler is within
-- the rest of the store; and a signature has at least 16 bytes
abbrev pub IsRead : Reading → ℕ → Type 0
IsRead readings.Outside n = Unit {0}
IsRead readings.Lists n = Unit {0}
IsRead (readings.List left size) n = (0 < left) × (16 ≤ size) × (left ≤ n)
IsRead (readings.Store format left filler) n = (0 < left) × (filler ≤ left) × (left ≤ n)

-- how the bytes after a part of a store are read, of which `left` bytes are left
abbrev pub within : StoreFormat → ℕ → ℕ → Reading
within format left filler = if left == 0 then readings.Outside else readings.Store format left filler

-- ---- bytes that are erased or not read

abbrev pub unread_step : Finding → List ℕ → Step
unread_step finding b =
    record { part = parts.Unread; finding = Some finding; length = length b; next = readings.Outside }

-- bytes that should be erased: free space, or unread with this finding
abbrev pub plain_step : Finding → List ℕ → Step
plain_step finding b =
    if all_are 0xff b then record { part = parts.Free; finding = None; length = length b; next = readings.Outside }
    else unread_step finding b

-- ---- outside of stores

-- Size of the header of a store is possible: at least the length of the header, and at most the number of bytes
abbrev pub has_store_size : List ℕ → Bool
has_store_size b = nat_le 28 (le_at 16 4 b) && nat_le (le_at 16 4 b) (length b)

-- the length of the store: Size, if it is possible, and otherwise the number of bytes
abbrev pub store_end : List ℕ → ℕ
store_end b = if has_store_size b then le_at 16 4 b else length b

-- the finding of the header of a store: Size is not possible; or Format is not VARIABLE_STORE_FORMATTED, or State is not
-- VARIABLE_STORE_HEALTHY
abbrev pub header_finding : List ℕ → Option Finding
header_finding b =
    if not (has_store_size b) then Some findings.StoreSize
    else (if (slice_index b 20 == 0x5a) && (slice_index b 21 == 0xfe) then None else Some findings.StoreState)

abbrev pub header_step : StoreFormat → List ℕ → Step
header_step format b = record {
  part = parts.StoreHeader (header_in format b);
  finding = header_finding b;
  length = 28;
  next = within format (store_end b - 28) 0;
}

-- WriteQueueSize of the working block is possible: the queue is within the bytes
abbrev pub has_queue_size : List ℕ → Bool
has_queue_size b = nat_le (32 + le_at 24 8 b) (length b)

-- the finding of the header of a working block
abbrev pub queue_finding : List ℕ → Option Finding
queue_finding b = if has_queue_size b then None else Some findings.QueueSize

abbrev pub working_step : List ℕ → Step
working_step b = record {
  part = parts.WorkingBlock;
  finding = queue_finding b;
  length = if has_queue_size b then 32 + le_at 24 8 b else length b;
  next = readings.Outside;
}

-- the bytes before the first store or working block
abbrev pub gap_step : List ℕ → Step
gap_step b = plain_step findings.NoStore (take (first_sign b) b)

abbrev pub sign_step : Sign → List ℕ → Step
sign_step (signs.Store format) b = header_step format b
sign_step signs.Working b = working_step b
sign_step signs.Nothing b = gap_step b

abbrev pub outside_step : List ℕ → Step
outside_step b = sign_step (sign_by b) b

-- ---- in a store

-- the number of filler bytes after a variable of `size` bytes: up to a multiple of 4, or to the end of the store
abbrev pub filler_after : ℕ → ℕ → ℕ
filler_after size left = min ((4 - size % 4) % 4) left

-- a part of this length, if it is within the rest of the store, and what follows it
abbrev pub part_step : StoreFormat → Part → ℕ → List ℕ → Step
part_step format part size b =
    if nat_le size (length b)
    then record {
      part = part;
      finding = None;
      length = size;
      next = within format (length b - size) (filler_after size (length b - size));
    }
    else unread_step findings.VariableSize b

-- the variable at the start of the rest of the store: only its header, if that was never finished
abbrev pub variable_step : StoreFormat → Variable → List ℕ → Step
variable_step format v b =
    if is_unfinished v then part_step format parts.Unfinished (header_len format) b
    else part_step format (parts.Variable v) (header_len format + v.name_size + v.data_size) b

-- the rest of a store, where a variable may begin
abbrev pub chain_step : StoreFormat → List ℕ → Step
chain_step format b =
    if not (has_start_id b) then plain_step findings.StartId b
    else (if nat_le (header_len format) (length b) then variable_step format (variable_in format b) b
    else unread_step findings.VariableSize b)

abbrev pub filler_step : StoreFormat → ℕ → ℕ → Step
filler_step format left filler =
    record { part = parts.Filler; finding = None; length = filler; next = within format (left - filler) 0 }

abbrev pub store_step : StoreFormat → ℕ → ℕ → List ℕ → Step
store_step format left filler b =
    if nat_lt 0 filler then filler_step format left filler else chain_step format (take left b)

-- ---- the rows

-- the first step over the bytes
abbrev pub step_at : Reading → List ℕ → Step
step_at readings.Outside b = outside_step b
step_at readings.Lists b = list_step b
step_at (readings.List left size) b = signature_step left size b
step_at (readings.Store format left filler) b = store_step format left filler b

-- the row of a step at this offset
abbrev pub row_at : ℕ → Step → Row
row_at at s = record { part = s.part; finding = s.finding; offset = at; length = s.length }

-- the first n rows of the bytes, which lie at this offset
abbrev pub rows_up_to : ℕ → Reading → ℕ → List ℕ → List Row
rows_up_to zero reading at b = []
rows_up_to (suc n) reading at [] = []
rows_up_to (suc n) reading at (x ∷ xs) =
    row_at at (step_at reading (x ∷ xs))
    ∷ rows_up_to n (step_at reading (x ∷ xs)).next (at + (step_at reading (x ∷ xs)).length)
    (drop (step_at reading (x ∷ xs)).length (x ∷ xs))

-- the rows of the bytes, which lie at this offset
abbrev pub rows_left : Reading → ℕ → List ℕ → List Row
rows_left reading at b = rows_up_to (length b) reading at b

-- the rows of some bytes that may contain stores; and the rows of some bytes that should be signature lists
unfoldable pub rows_of : List ℕ → List Row
rows_of b = rows_left readings.Outside 0 b

unfoldable pub signature_rows : List ℕ → List Row
signature_rows b = rows_left readings.Lists 0 b
