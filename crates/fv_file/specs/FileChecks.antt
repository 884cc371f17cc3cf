-- The checks of a file and of a cell in order, and the faults of a body: its first fault, or any fault (PI specification,
-- volume 3, sections 3.2.2 and 3.2.3.1).
use Rattle.std.specs.List.{AllByRecursion}
use Rattle.std.specs.Prelude.{ℕ, ◌≡◌, ◌+◌, ◌-◌, ◌<◌, ◌==◌, nat_le, ◌&&◌, ◌||◌, not, Bool, true, false, if◌then◌else◌}
use Rattle.std.specs.Prelude.{Option, Some, None, List, [], ◌∷◌, length, take, drop}
use Rattle.fv_base.specs.Words.{Check, check, Which, First, Fails, AllAre, erased_byte, le_at}
use Rattle.fv_base.specs.declared.fault.Fault.{Fault}
use Rattle.fv_base.specs.declared.flash.FileSystem.{FileSystem}
use Rattle.fv_base.specs.declared.flash.Polarity.{Polarity}
use Rattle.fv_base.specs.declared.fault.FaultKind.TheVariants as kinds
use Rattle.fv_base.specs.declared.flash.FileSystem.TheVariants.{Ffs2, Ffs3}
use Rattle.fv_file.specs.Cells.{CellForm, Tiles, is_free}
use Rattle.fv_file.specs.FileAttributes.{is_large, is_fixed}
use Rattle.fv_file.specs.FileHeaders.{attributes_at, file_header_len, file_size_in, file_sum_at, file_sum_right}
use Rattle.fv_file.specs.FileHeaders.{file_type_at, header_sum_of, pad_kind, state_at}
use Rattle.fv_file.specs.States.{bits_of, state_of, is_alive}
use Rattle.fv_file.specs.declared.state.FileState.{FileState}
use Rattle.fv_file.specs.declared.state.FileState.TheVariants as states

-- the number of bytes at the start of the list that have the value e, up to the first byte with another value
abbrev pub leading_count : ℕ → List ℕ → ℕ
leading_count e [] = 0
leading_count e (x ∷ xs) = if x == e then 1 + leading_count e xs else 0

-- the file system allows large headers: only FFS3 does
abbrev pub allows_large : FileSystem → Bool
allows_large Ffs2 = false
allows_large Ffs3 = true

-- the length of the header at the start of r; the size of the file that it begins; and the data of this file
abbrev pub file_header_len_at : List ℕ → ℕ
file_header_len_at r = file_header_len (is_large (attributes_at r))

abbrev pub file_size_at : List ℕ → ℕ
file_size_at r = file_size_in (is_large (attributes_at r)) r

abbrev pub payload_at : List ℕ → List ℕ
payload_at r = take (file_size_at r - file_header_len_at r) (drop (file_header_len_at r) r)

-- the header is short, or the file system allows large headers
abbrev pub may_be_large : FileSystem → List ℕ → Bool
may_be_large system r = not (is_large (attributes_at r)) || allows_large system

-- the header, with the file checksum and State taken as zero, sums to zero
abbrev pub has_header_sum : List ℕ → Bool
has_header_sum r = header_sum_of (take (file_header_len_at r) r) == 0

-- the file's size is at least the header's length and at most the length of r, and Size of a large header is zero
abbrev pub has_file_size : List ℕ → Bool
has_file_size r =
    nat_le (file_header_len_at r) (file_size_at r)
    && (nat_le (file_size_at r) (length r) && (not (is_large (attributes_at r)) || (le_at 20 3 r == 0)))

-- the fixed bit and the file checksum are not checked: the file is a pad, or is not valid
abbrev pub skips_data : Bool → List ℕ → Bool
skips_data alive r = not alive || (file_type_at r == pad_kind)

-- the file checksum is right
abbrev pub has_file_sum : List ℕ → Bool
has_file_sum r = file_sum_right (attributes_at r) (file_sum_at r) (payload_at r)

-- the checks of a file at the offset p, in order, each with its fault; `alive` says whether the file is valid, and r is
-- the bytes from p on
abbrev pub file_checks : FileSystem → Bool → ℕ → List ℕ → List (Check Fault)
file_checks system alive p r =
    check (may_be_large system r) kinds.LargeFile (p + 19)
    ∷ check (nat_le (file_header_len_at r) (length r)) kinds.FileSize (p + 20)
    ∷ check (has_header_sum r) kinds.FileHeaderSum p
    ∷ check (has_file_size r) kinds.FileSize (p + 20)
    ∷ check (skips_data alive r || not (is_fixed (attributes_at r))) kinds.Fixed (p + 19)
    ∷ check (skips_data alive r || has_file_sum r) kinds.FileSum (p + 17)
    ∷ []

-- the only check of a stub (a header under construction or an invalid header): r has at least as many bytes as the
-- header, which has 24 bytes, or 32 if bit 01 of its attributes is set
abbrev pub stub_checks : ℕ → List ℕ → List (Check Fault)
stub_checks p r = check (nat_le (file_header_len_at r) (length r)) kinds.FileSize (p + 20) ∷ []

-- the checks of a cell according to its state; the state Free was rejected by an earlier check
abbrev pub state_checks : Option FileState → FileSystem → ℕ → List ℕ → List (Check Fault)
state_checks None system p r = check false kinds.FileState (p + 23) ∷ []
state_checks (Some states.Free) system p r = []
state_checks (Some states.Construction) system p r = stub_checks p r
state_checks (Some states.HeaderInvalid) system p r = stub_checks p r
state_checks (Some state) system p r = file_checks system (is_alive state) p r

-- the checks of a cell at the offset p, in order, each with its fault; r is the bytes from p on, and not all of them
-- are erased
abbrev pub cell_checks : FileSystem → Polarity → ℕ → List ℕ → List (Check Fault)
cell_checks system polarity p r =
    check (nat_le 24 (length r) && not (bits_of polarity (state_at r) == 0)) kinds.FreeSpace
    (p + leading_count (erased_byte polarity) r)
    ∷ state_checks (state_of polarity (state_at r)) system p r

-- there is a state, and a file in this state is valid
abbrev pub is_valid_state : Option FileState → Bool
is_valid_state None = false
is_valid_state (Some state) = is_alive state

-- the checks of bytes that must begin with a valid file or a pad, in order, each with its fault
abbrev pub verify_checks : FileSystem → Polarity → List ℕ → List (Check Fault)
verify_checks system polarity b =
    check (nat_le 24 (length b)) kinds.FileSize 20
    ∷ check (is_valid_state (state_of polarity (state_at b))) kinds.FileState 23
    ∷ file_checks system true 0 b

-- none of the cells is free
abbrev pub NoneFree : List CellForm → Type 0
NoneFree cs = AllByRecursion (λ c. is_free c ≡ false) cs

-- some cells, none of them free, tile the body up to an offset `at`, not all bytes from `at` on are erased, and a check
-- of the cell at `at` fails with this fault. `first` is the offset of the body in its volume
pub record CellFault (which : Which) (system : FileSystem) (polarity : Polarity) (first : ℕ) (body : List ℕ)
    (fault : Fault) : Type 0 where
  pub cells : List CellForm
  pub at : ℕ
  pub tiled : Tiles system polarity first cells (take at body)
  pub none_free : NoneFree cells
  pub inside : at < length body
  pub not_erased : AllAre (erased_byte polarity) (drop at body) → ⊥
  pub fails : Fails which (cell_checks system polarity (first + at) (drop at body)) fault

-- the fault is the first fault of the body: cells that are not free tile the body up to some place, and the fault comes
-- from the first check there that does not hold
abbrev pub IsFirstCellFault : FileSystem → Polarity → ℕ → List ℕ → Fault → Type 0
IsFirstCellFault = CellFault First
