-- The state that a file's State byte shows (PI specification, volume 3, section 3.2.3.1, EFI_FFS_FILE_STATE).
use Rattle.std.specs.Prelude.{◌≡◌, ℕ, ◌-◌, Bool, true, false, ◌==◌, nat_lt, if◌then◌else◌, Option, Some, None}
use Rattle.fv_base.specs.declared.flash.Polarity.{Polarity}
use Rattle.fv_base.specs.declared.flash.Polarity.TheVariants.{Ones, Zeros}
use Rattle.fv_file.specs.declared.state.FileState.{FileState}
use Rattle.fv_file.specs.declared.state.FileState.TheVariants as states

-- the bits of a State byte that were written since it was erased: the byte itself, or the byte inverted if erased bytes
-- are 0xFF
abbrev pub bits_of : Polarity → ℕ → ℕ
bits_of Ones byte = 255 - byte
bits_of Zeros byte = byte

-- the state of the highest bit that is set, if this bit has a state: EFI_FILE_HEADER_CONSTRUCTION (0x01),
-- EFI_FILE_HEADER_VALID (0x02), EFI_FILE_DATA_VALID (0x04), EFI_FILE_MARKED_FOR_UPDATE (0x08), EFI_FILE_DELETED (0x10)
-- or EFI_FILE_HEADER_INVALID (0x20). Free, if no bit is set
abbrev pub state_in : ℕ → Option FileState
state_in n =
    if n == 0 then Some states.Free
    else (if nat_lt n 0x02 then Some states.Construction
    else (if nat_lt n 0x04 then Some states.HeaderValid
    else (if nat_lt n 0x08 then Some states.DataValid
    else (if nat_lt n 0x10 then Some states.Marked
    else (if nat_lt n 0x20 then Some states.Deleted
    else (if nat_lt n 0x40 then Some states.HeaderInvalid else None))))))

-- the state that a State byte shows, if it shows one
unfoldable pub state_of : Polarity → ℕ → Option FileState
state_of polarity byte = state_in (bits_of polarity byte)

-- the byte shows the state: the state of the highest bit that was written, which is below 0x40, or Free if no bit was
-- written
abbrev pub StateOf : ℕ → Polarity → FileState → Type 0
StateOf byte polarity state = state_of polarity byte ≡ Some state

-- a file in this state is valid: its data are valid, whether or not it is marked for update
abbrev pub is_alive : FileState → Bool
is_alive states.DataValid = true
is_alive states.Marked = true
is_alive _ = false
