-- The pieces of a volume's body: its cells, and what is there in place of a cell (docs/FORMAT.md, "A tolerant reading",
-- rules 9 to 12; PI specification, volume 3, sections 3.2.2 and 3.2.3). r is the part of the body that is left, and has
-- a multiple of 8 bytes, at least 8.
use Rattle.std.specs.Prelude.{◌≡◌, ◌⊎◌, ℕ, zero, suc, ◌+◌, ◌-◌, ◌*◌, ◌/◌, ◌%◌, ◌==◌, nat_le, nat_lt, ◌&&◌, ◌||◌, not, Bool, true, false}
use Rattle.std.specs.Prelude.{if◌then◌else◌, Option, Some, None, List, [], ◌∷◌, length, take, drop, slice_index, is_some}
use Rattle.fv_base.specs.Words.{Check, FailsAfter, all_are, erased_byte, field, guid_of, le_at, up_to_8}
use Rattle.fv_base.specs.declared.fault.Fault.{Fault}
use Rattle.fv_base.specs.declared.fault.FaultKind.{FaultKind}
use Rattle.fv_base.specs.declared.fault.FaultKind.TheVariants as kinds
use Rattle.fv_base.specs.declared.flash.FileSystem.{FileSystem}
use Rattle.fv_base.specs.declared.flash.FileSystem.TheVariants as systems
use Rattle.fv_base.specs.declared.flash.Polarity.{Polarity}
use Rattle.fv_base.specs.declared.flash.Polarity.TheVariants.{Zeros}
use Rattle.fv_file.specs.Words.{CellForm, Dead, Free, Pad, Stub, Valid}
use Rattle.fv_file.specs.declared.head.FileHead.{FileHead}
use Rattle.fv_file.specs.Words.{IsNextFault, attributes_at, bits_of, cell_checks, file_header_len_at, file_sum_at, file_sum_right, file_type_at}
use Rattle.fv_file.specs.Words.{header_sum_of, is_fixed, is_large, is_summed, is_valid_state, leading_count, left_at, pad_kind, skips_data}
use Rattle.fv_file.specs.Words.{state_at, state_of}
use Rattle.fv_file.specs.declared.state.FileState.{FileState}
use Rattle.fv_file.specs.declared.state.FileState.TheVariants as states
use Rattle.fv_survey.specs.FindingSets.{none, only, with_kind}
use Rattle.fv_survey.specs.Portions.{no_name}
use Rattle.fv_survey.specs.declared.findings.Findings.{Findings}
use Rattle.fv_survey.specs.declared.pieces.Layout.{Layout}
use Rattle.fv_survey.specs.declared.pieces.Piece.{Piece}
use Rattle.fv_survey.specs.declared.pieces.Sizes.{Sizes}
use Rattle.fv_survey.specs.declared.pieces.Sort.{Sort}
use Rattle.fv_survey.specs.declared.pieces.Sort.TheVariants as sorts
use Rattle.fv_survey.specs.declared.systems.Files.{Files}
use Rattle.fv_survey.specs.declared.systems.Files.TheVariants as files

-- ---- the header of a file

-- the length of a header with attribute 0x01 and this Size (rule 10): 32 bytes in FFS3; in FFS1 the attribute says
-- something else, and the header is short; in other file systems 28 bytes if Size is 0
abbrev pub long_header_len : Files → ℕ → ℕ
long_header_len files.Ffs3 size = 32
long_header_len files.Ffs1 size = 24
long_header_len _ size = if size == 0 then 28 else 24

-- the length of the header at the start of r (rule 10)
abbrev pub header_len_by : Files → List ℕ → ℕ
header_len_by files r = if is_large (attributes_at r) then long_header_len files (le_at 20 3 r) else 24

-- the size of the file, with a header of this length: Size, or the 4 or 8 bytes after the first 24
abbrev pub size_by : ℕ → List ℕ → ℕ
size_by header r = if header == 24 then le_at 20 3 r else (if header == 28 then le_at 24 4 r else le_at 24 8 r)

-- the length of the header at the start of r, and the size of the file that the header states
unfoldable pub sizes_by : Files → List ℕ → Sizes
sizes_by files r = record { header = header_len_by files r; size = size_by (header_len_by files r) r }

-- the size is at least the length of the header, and the file ends within n bytes
abbrev pub fits : Sizes → ℕ → Bool
fits sizes n = nat_le sizes.header sizes.size && nat_le sizes.size n

-- the header has n bytes, which lie within r and sum to zero, with the file checksum and State taken as zero
unfoldable pub sums_to_zero : ℕ → List ℕ → Bool
sums_to_zero n r = nat_le n (length r) && (header_sum_of (take n r) == 0)

-- the state is usual: the data of the file are valid, or the file was deleted
abbrev pub is_usual_state : Option FileState → Bool
is_usual_state (Some states.DataValid) = true
is_usual_state (Some states.Marked) = true
is_usual_state (Some states.Deleted) = true
is_usual_state _ = false

-- the type is usual: it is defined, or it is left to others
abbrev pub is_usual_type : ℕ → Bool
is_usual_type kind = (nat_le 1 kind && nat_le kind 0x0f) || nat_le 0xc0 kind

-- the file checksum is usual: it covers the data, or it is a value that tools write if it does not
abbrev pub is_usual_sum : List ℕ → Bool
is_usual_sum r =
    is_summed (attributes_at r) || ((file_sum_at r == 0xaa) || ((file_sum_at r == 0x5a) || (file_sum_at r == 0)))

-- r begins with a header with a usual state, type, file checksum and size
unfoldable pub has_usable_header : Layout → List ℕ → Bool
has_usable_header layout r =
    nat_le 24 (length r)
    && (is_usual_state (state_of layout.polarity (state_at r))
    && (is_usual_type (file_type_at r) && (is_usual_sum r && fits (sizes_by layout.files r) (length r))))

-- the header has a right checksum, too
unfoldable pub has_sound_header : Layout → List ℕ → Bool
has_sound_header layout r = has_usable_header layout r && sums_to_zero (sizes_by layout.files r).header r

-- ---- rule 12: lost bytes

-- a piece that can be read may begin here: 256 erased bytes begin, or fewer, if they are all that is left; or a header
-- with a usual state, type, file checksum and size and a right checksum begins
unfoldable pub resumes : Layout → List ℕ → Bool
resumes layout r = all_are (erased_byte layout.polarity) (take 256 r) || has_sound_header layout r

-- of the n words of 8 bytes in r, the number of bytes before the first word at which a piece may begin, or of all n
-- words
abbrev pub bytes_before : Layout → ℕ → List ℕ → ℕ
bytes_before layout zero r = 0
bytes_before layout (suc n) r = if resumes layout r then 0 else 8 + bytes_before layout n (drop 8 r)

-- the number of lost bytes that r begins with: up to the least multiple of 8, at least 8, at which a piece may begin,
-- or all bytes
unfoldable pub lost_len : Layout → List ℕ → ℕ
lost_len layout r = 8 + bytes_before layout (length r / 8 - 1) (drop 8 r)

-- ---- pieces without a header

-- a piece of n bytes that has no header and no name
unfoldable pub plain_piece : Sort → ℕ → Findings → Piece
plain_piece sort n findings = record {
  sort = sort;
  header = 0;
  size = n;
  span = n;
  code = 0;
  findings = findings;
  name = no_name;
  is_marked = false;
}

-- whether a header may begin r: there are 24 bytes, and State is not erased. This is the first check of a strict cell
abbrev pub may_be_header : Polarity → List ℕ → Bool
may_be_header polarity r = nat_le 24 (length r) && not (bits_of polarity (state_at r) == 0)

-- the piece at the start of r if no header begins there: free space, if all bytes are erased. If some are not (rule 9),
-- the erased bytes that r begins with, down to a multiple of 8, are free, with a finding. If there are none, the first
-- bytes are lost (rule 12)
unfoldable pub space_piece : Layout → List ℕ → Piece
space_piece layout r =
    if all_are (erased_byte layout.polarity) r then plain_piece sorts.Free (length r) none
    else (if nat_le 8 (leading_count (erased_byte layout.polarity) r)
    then plain_piece sorts.Free (leading_count (erased_byte layout.polarity) r / 8 * 8) (only kinds.FreeSpace)
    else plain_piece sorts.Lost (lost_len layout r) (only kinds.FreeSpace))

-- ---- files

-- the state that State shows by the bits that count (rule 10): the bits 0x40 and 0x80 do not
unfoldable pub counted_state : Polarity → ℕ → Option FileState
counted_state polarity byte = state_of Zeros (bits_of polarity byte % 64)

-- the file is valid by the bits of State that count
abbrev pub is_alive_by : Polarity → List ℕ → Bool
is_alive_by polarity r = is_valid_state (counted_state polarity (state_at r))

-- the sort of a file: a dead file, unless it is valid by the bits of State that count; a pad or a file by its type
unfoldable pub sort_by : Polarity → List ℕ → Sort
sort_by polarity r =
    if is_alive_by polarity r then (if file_type_at r == pad_kind then sorts.Pad else sorts.File) else sorts.Dead

-- there is a state, and it is marked for update
abbrev pub shows_mark : Option FileState → Bool
shows_mark (Some states.Marked) = true
shows_mark _ = false

-- the file is marked for update by the bits of State that count, and is not a pad
abbrev pub is_marked_by : Polarity → List ℕ → Bool
is_marked_by polarity r = shows_mark (counted_state polarity (state_at r)) && not (file_type_at r == pad_kind)

-- the files are of FFS1; the files are of FFS3
abbrev pub is_ffs1 : Files → Bool
is_ffs1 files.Ffs1 = true
is_ffs1 _ = false

abbrev pub is_ffs3 : Files → Bool
is_ffs3 files.Ffs3 = true
is_ffs3 _ = false

-- the last 2 bytes of the file are a tail (rule 7): attribute 0x01 of an FFS1 file is set, and the data have 2 bytes
unfoldable pub is_tailed : Files → Sizes → List ℕ → Bool
is_tailed files sizes r = is_ffs1 files && (is_large (attributes_at r) && nat_le (sizes.header + 2) sizes.size)

-- where the data of a file end: a tail is filler
abbrev pub data_end : Files → Sizes → List ℕ → ℕ
data_end files sizes r = if is_tailed files sizes r then sizes.size - 2 else sizes.size

-- the piece of a file, a pad or a dead file with these sizes and findings
unfoldable pub file_piece : Layout → Sizes → Findings → List ℕ → Piece
file_piece layout sizes findings r = record {
  sort = sort_by layout.polarity r;
  header = sizes.header;
  size = data_end layout.files sizes r;
  span = up_to_8 sizes.size;
  code = file_type_at r;
  findings = findings;
  name = guid_of (field 0 16 r);
  is_marked = is_marked_by layout.polarity r;
}

-- the state is the state of a stub: a header under construction, or an invalid header
abbrev pub is_stub_state : Option FileState → Bool
is_stub_state (Some states.Construction) = true
is_stub_state (Some states.HeaderInvalid) = true
is_stub_state _ = false

-- the piece of the strict cell that r begins with, which is not free: a stub, or a file, a pad or a dead file
unfoldable pub sound_piece : Layout → List ℕ → Piece
sound_piece layout r =
    if is_stub_state (state_of layout.polarity (state_at r)) then plain_piece sorts.Stub (file_header_len_at r) none
    else file_piece layout (sizes_by layout.files r) none r

-- ---- rules 10 and 11: files that are read although the strict reading rejects them

-- r begins with erased bytes: its first byte is erased, and State is, if there are 24 bytes
abbrev pub begins_erased : Polarity → List ℕ → Bool
begins_erased polarity r =
    (slice_index r 0 == erased_byte polarity) && (nat_lt (length r) 24 || (state_at r == erased_byte polarity))

-- a cell may begin at the start of r: r is the end of the body, or begins with erased bytes, or with a header with a
-- usual state, type, file checksum and size
unfoldable pub may_begin_cell : Layout → List ℕ → Bool
may_begin_cell layout r = (length r == 0) || (begins_erased layout.polarity r || has_usable_header layout r)

-- rule 10: the file fits in the body, and the header checksum is right or a cell may begin at the end of the file
abbrev pub is_read_whole : Layout → Sizes → List ℕ → Bool
is_read_whole layout sizes r =
    fits sizes (length r)
    && (sums_to_zero sizes.header r || may_begin_cell layout (drop (up_to_8 sizes.size) r))

-- rule 11: the volume is cut off, the header checksum is right, and the file goes past the end
abbrev pub is_read_cut : Layout → Sizes → List ℕ → Bool
is_read_cut layout sizes r = layout.is_cut && (nat_lt (length r) sizes.size && sums_to_zero sizes.header r)

-- the sizes of the file at the start of r, which its header states as `sizes`, if the file is read. A file that goes
-- past the end ends at the end
unfoldable pub read_sizes : Layout → Sizes → List ℕ → Option Sizes
read_sizes layout sizes r =
    if is_read_whole layout sizes r then Some sizes
    else (if is_read_cut layout sizes r then Some (record { header = sizes.header; size = length r }) else None)

-- the file checksum is right for the data of a file with these sizes
abbrev pub has_data_sum : Sizes → List ℕ → Bool
has_data_sum sizes r =
    file_sum_right (attributes_at r) (file_sum_at r) (field sizes.header (sizes.size - sizes.header) r)

-- the header is short, or the files are of FFS3
abbrev pub may_be_large_in : Files → List ℕ → Bool
may_be_large_in files r = not (is_large (attributes_at r)) || is_ffs3 files

-- the file ends within the body, and Size is zero if the header has 32 bytes
abbrev pub has_stated_size : Sizes → List ℕ → Bool
has_stated_size stated r = nat_le stated.size (length r) && (not (stated.header == 32) || (le_at 20 3 r == 0))

-- the file is a pad, or is not valid by the bits of State that count, or is not fixed
abbrev pub may_move : Polarity → List ℕ → Bool
may_move polarity r = skips_data (is_alive_by polarity r) r || not (is_fixed (attributes_at r))

-- the file is a pad, or is not valid by the bits of State that count, or has a tail, or its file checksum is right
abbrev pub has_sound_data : Layout → Sizes → List ℕ → Bool
has_sound_data layout sizes r =
    skips_data (is_alive_by layout.polarity r) r || (is_tailed layout.files sizes r || has_data_sum sizes r)

-- a rule, and the kind of the fault if the rule is broken
abbrev pub rule : Bool → FaultKind → Check FaultKind
rule holds kind = record { holds = holds; fault = kind }

-- the rules that may be broken although a file is read (rule 10). `stated` are the sizes in its header, and `sizes` the
-- sizes with which it is read
abbrev pub file_rules : Layout → Sizes → Sizes → List ℕ → List (Check FaultKind)
file_rules layout stated sizes r =
    rule (is_some (state_of layout.polarity (state_at r))) kinds.FileState
    ∷ rule (sums_to_zero sizes.header r) kinds.FileHeaderSum
    ∷ rule (may_be_large_in layout.files r) kinds.LargeFile
    ∷ rule (has_stated_size stated r) kinds.FileSize
    ∷ rule (may_move layout.polarity r) kinds.Fixed
    ∷ rule (has_sound_data layout sizes r) kinds.FileSum
    ∷ []

-- a set of kinds, with the kinds of the rules that do not hold
abbrev pub with_broken : Findings → List (Check FaultKind) → Findings
with_broken set [] = set
with_broken set (c ∷ cs) = with_broken (if c.holds then set else with_kind c.fault set) cs

-- the findings of a file that is read although its strict cell has a fault of this kind: the fault, and each rule that
-- is broken
unfoldable pub file_findings : FaultKind → Layout → Sizes → Sizes → List ℕ → Findings
file_findings kind layout stated sizes r = with_broken (only kind) (file_rules layout stated sizes r)

-- the piece where the strict cell has a fault of this kind: a file with these sizes, if a file is read nevertheless,
-- and otherwise lost bytes (rule 12)
abbrev pub piece_with : Option Sizes → FaultKind → Layout → List ℕ → Piece
piece_with None kind layout r = plain_piece sorts.Lost (lost_len layout r) (only kind)
piece_with (Some sizes) kind layout r =
    file_piece layout sizes (file_findings kind layout (sizes_by layout.files r) sizes r) r

unfoldable pub damaged_piece : FaultKind → Layout → List ℕ → Piece
damaged_piece kind layout r = piece_with (read_sizes layout (sizes_by layout.files r) r) kind layout r

-- ---- all pieces

-- the file system by whose rules the strict reading reads the files (rule 7)
abbrev pub system_by : Files → FileSystem
system_by files.Ffs3 = systems.Ffs3
system_by _ = systems.Ffs2

-- the kind of the fault of the first check that does not hold, if there is such a check
abbrev pub first_kind : List (Check Fault) → Option FaultKind
first_kind [] = None
first_kind (c ∷ cs) = if c.holds then first_kind cs else Some c.fault.kind

-- the kind of the first fault of the strict cell, if it has a fault
unfoldable pub strict_kind : Layout → List ℕ → Option FaultKind
strict_kind layout r = first_kind (cell_checks (system_by layout.files) layout.polarity 0 r)

-- the piece where a header begins, and the strict cell has this fault or none
abbrev pub headed_piece : Option FaultKind → Layout → List ℕ → Piece
headed_piece None layout r = sound_piece layout r
headed_piece (Some kind) layout r = damaged_piece kind layout r

-- the piece at the start of r
unfoldable pub piece_by : Layout → List ℕ → Piece
piece_by layout r =
    if may_be_header layout.polarity r then headed_piece (strict_kind layout r) layout r else space_piece layout r

-- ---- the findings of a piece

-- the strict reading finds this kind of fault at the start of r: not all bytes are erased, and the first check of a
-- cell that does not hold has this kind
abbrev pub HasStrictFault : Layout → FaultKind → List ℕ → Type 0
HasStrictFault layout kind r =
    (fault : Fault) × IsNextFault (left_at (system_by layout.files) layout.polarity 0 r) fault × (fault.kind ≡ kind)

-- a file is read nevertheless at the start of r, and breaks a rule with this kind
abbrev pub BreaksRule : Layout → FaultKind → List ℕ → Type 0
BreaksRule layout kind r =
    (sizes : Sizes) × (read_sizes layout (sizes_by layout.files r) r ≡ Some sizes)
    × FailsAfter (λ before. Unit {0}) (file_rules layout (sizes_by layout.files r) sizes r) kind

-- a rule with this kind is broken at the start of r
abbrev pub IsBroken : Layout → FaultKind → List ℕ → Type 0
IsBroken layout kind r = HasStrictFault layout kind r ⊎ BreaksRule layout kind r

-- ---- strict cells

-- the piece has the lengths, the type and the name of this header
abbrev pub HasHead : FileHead → Piece → Type 0
HasHead head piece =
    (piece.header ≡ head.header_len) × (piece.size ≡ head.size) × (piece.span ≡ up_to_8 head.size)
    × (piece.code ≡ head.kind) × (piece.name ≡ head.name)

-- the piece is this strict cell
abbrev pub IsCellPiece : CellForm → Piece → Type 0
IsCellPiece (Valid at head payload) piece =
    (piece.sort ≡ sorts.File) × HasHead head piece × (piece.is_marked ≡ shows_mark (Some head.state))
IsCellPiece (Pad at head payload) piece = (piece.sort ≡ sorts.Pad) × HasHead head piece × (piece.is_marked ≡ false)
IsCellPiece (Dead at len state) piece = (piece.sort ≡ sorts.Dead) × (piece.span ≡ len) × (piece.is_marked ≡ false)
IsCellPiece (Stub at len) piece = (piece.sort ≡ sorts.Stub) × (piece.span ≡ len) × (piece.is_marked ≡ false)
IsCellPiece (Free at len) piece = (piece.sort ≡ sorts.Free) × (piece.span ≡ len) × (piece.is_marked ≡ false)
