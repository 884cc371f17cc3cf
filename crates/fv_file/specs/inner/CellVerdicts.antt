-- The four sorts of states, which determine the kind of cell that a header begins, and the result of the checks at one
-- place: a value, or the fault of the first check that does not hold.
use Rattle.std.specs.Prelude.{ℕ, Bool, true, false, List, [], Option, Some, if◌then◌else◌, ◌+◌, ◌==◌, ◌&&◌, not, nat_lt, None}
use Rattle.std.specs.Prelude.{Result, Ok, Err, length}
use Rattle.fv_base.specs.Words.{Check, outer_fault, erased_byte, up_to_8}
use Rattle.fv_base.specs.declared.fault.Fault.{Fault}
use Rattle.fv_base.specs.declared.flash.FileSystem.{FileSystem}
use Rattle.fv_base.specs.declared.flash.Polarity.{Polarity}
use Rattle.fv_file.specs.FileChecks.{file_checks, stub_checks, verify_checks, leading_count, payload_at, is_valid_state, skips_data}
use Rattle.fv_file.specs.States.{is_alive, state_of}
use Rattle.fv_file.specs.declared.state.FileState.{FileState}
use Rattle.fv_file.specs.declared.state.FileState.TheVariants as states
use Rattle.fv_base.specs.inner.Verdicts.{first_fault, verdict_by}
use Rattle.fv_base.specs.declared.fault.FaultKind.TheVariants as kinds
use Rattle.fv_file.specs.Cells.{CellForm}
use Rattle.fv_file.specs.Cells as cells
use Rattle.fv_file.specs.FileHeaders.{attributes_at, head_in, pad_kind, state_at}
use Rattle.fv_file.specs.FileAttributes.{is_fixed}
use Rattle.fv_file.specs.declared.head.FileHead.{FileHead}

-- Erased: nothing was written. Unfinished: the header is under construction or invalid. Dead: the file was deleted, or
-- only its header is valid. Valid: the file is valid
pub data StateSort : Type 0 where
  Erased : StateSort
  Unfinished : StateSort
  Dead : StateSort
  Valid : StateSort

-- the sort of a state
abbrev pub sort_of : FileState → StateSort
sort_of states.Free = Erased
sort_of states.Construction = Unfinished
sort_of states.HeaderInvalid = Unfinished
sort_of st = if is_alive st then Valid else Dead

-- there is a state, and it is the state of a header under construction or of an invalid header
abbrev pub is_unfinished : Option FileState → Bool
is_unfinished (Some states.Construction) = true
is_unfinished (Some states.HeaderInvalid) = true
is_unfinished _ = false

-- State, Type and Attributes of the header at the start of r show a valid file that is not a pad and is fixed
abbrev pub is_held : Polarity → List ℕ → Bool
is_held polarity r = not (skips_data (is_valid_state (state_of polarity (state_at r))) r) && is_fixed (attributes_at r)

-- the checks of a cell according to the sort of its state; `alive` says whether a file is valid
abbrev pub sort_checks : StateSort → FileSystem → Bool → ℕ → List ℕ → List (Check Fault)
sort_checks Erased system alive p r = []
sort_checks Unfinished system alive p r = stub_checks p r
sort_checks _ system alive p r = file_checks system alive p r

-- the header of a file at the offset p, or the first fault
unfoldable pub file_verdict : FileSystem → FileState → ℕ → List ℕ → Result FileHead Fault
file_verdict system state p r = verdict_by (first_fault (file_checks system (is_alive state) p r)) (head_in state r)

-- the cell that a header and its data make at the offset p, according to the sort of its state
abbrev pub cell_of : StateSort → ℕ → FileHead → List ℕ → CellForm
cell_of Unfinished p head payload = cells.Stub p head.header_len
cell_of Dead p head payload = cells.Dead p (up_to_8 head.size) head.state
cell_of _ p head payload = if head.kind == pad_kind then cells.Pad p head payload else cells.Valid p head payload

-- the cell at the offset p, according to the state that its State byte shows (the case without a state is not used); r
-- is the bytes from p on
abbrev pub cell_in : Option FileState → ℕ → List ℕ → CellForm
cell_in None p r = cells.Free p 0
cell_in (Some state) p r = cell_of (sort_of state) p (head_in state r) (payload_at r)

-- the fault of bytes that do not begin with a cell and are not all erased: FreeSpace at the first byte that is not
-- erased
abbrev pub stray : Polarity → ℕ → List ℕ → Fault
stray polarity p r = outer_fault kinds.FreeSpace (p + leading_count (erased_byte polarity) r)

-- the cell at the offset p, according to the sort of its state, if its header has no fault, and otherwise the fault
abbrev pub cell_with : StateSort → ℕ → List ℕ → Result FileHead Fault → Result CellForm Fault
cell_with sort p r (Ok head) = Ok (cell_of sort p head (payload_at r))
cell_with sort p r (Err f) = Err f

-- the cell at the offset p with a state of this sort, or the first fault
abbrev pub sort_verdict : StateSort → FileState → FileSystem → Polarity → ℕ → List ℕ → Result CellForm Fault
sort_verdict Erased state system polarity p r = Err (stray polarity p r)
sort_verdict Unfinished state system polarity p r =
    verdict_by (first_fault (stub_checks p r)) (cell_of Unfinished p (head_in state r) (payload_at r))
sort_verdict sort state system polarity p r = cell_with sort p r (file_verdict system state p r)

-- the cell at the offset p, according to the state that its State byte shows, or the first fault
abbrev pub state_verdict : Option FileState → FileSystem → Polarity → ℕ → List ℕ → Result CellForm Fault
state_verdict None system polarity p r = Err (outer_fault kinds.FileState (p + 23))
state_verdict (Some state) system polarity p r = sort_verdict (sort_of state) state system polarity p r

-- the cell at the offset p, where no free cell begins, or the first fault
abbrev pub cell_verdict : FileSystem → Polarity → ℕ → List ℕ → Result CellForm Fault
cell_verdict system polarity p r =
    if nat_lt (length r) 24 then Err (stray polarity p r)
    else state_verdict (state_of polarity (state_at r)) system polarity p r

-- the header at the start of the bytes, if they show a state (the case without a state is not used)
abbrev pub shown_head : Option FileState → List ℕ → FileHead
shown_head None b = head_in states.Free b
shown_head (Some state) b = head_in state b

-- the header of the valid file or pad that the bytes begin with, or the first fault
abbrev pub verify_verdict : FileSystem → Polarity → List ℕ → Result FileHead Fault
verify_verdict system polarity b =
    verdict_by (first_fault (verify_checks system polarity b)) (shown_head (state_of polarity (state_at b)) b)
