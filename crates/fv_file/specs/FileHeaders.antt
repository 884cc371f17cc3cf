-- Files and their headers (PI specification, volume 3, section 3.2.3.1, EFI_FFS_FILE_HEADER and EFI_FFS_FILE_HEADER2).
use Rattle.std.specs.Prelude.{◌≡◌, ◌≢◌, ℕ, ◌+◌, ◌%◌, ◌==◌, Bool, true, false, if◌then◌else◌, List, ◌++◌, length, take}
use Rattle.std.specs.Prelude.{drop, slice_index, sum}
use Rattle.fv_base.specs.Words.{guid_of, le_at, field}
use Rattle.fv_base.specs.declared.flash.FileSystem.{FileSystem}
use Rattle.fv_base.specs.declared.flash.Polarity.{Polarity}
use Rattle.fv_base.specs.declared.flash.FileSystem.TheVariants.{Ffs3}
use Rattle.fv_file.specs.FileAttributes.{attribute_bits, attributes_by, is_fixed, is_large, is_summed}
use Rattle.fv_file.specs.States.{StateOf}
use Rattle.fv_file.specs.declared.head.FileHead.{FileHead}
use Rattle.fv_file.specs.declared.state.FileState.{FileState}

-- the type of a pad file, 0xF0 (EFI_FV_FILETYPE_FFS_PAD)
abbrev pub pad_kind : ℕ
pad_kind = 0xf0

-- the length of a header in bytes: 24 if it is short, 32 if it is large
abbrev pub file_header_len : Bool → ℕ
file_header_len false = 24
file_header_len true = 32

-- the header checksum in the header at the start of b (IntegrityCheck.Checksum.Header)
abbrev pub header_sum_at : List ℕ → ℕ
header_sum_at b = slice_index b 16

-- the file checksum in the header at the start of b (IntegrityCheck.Checksum.File)
abbrev pub file_sum_at : List ℕ → ℕ
file_sum_at b = slice_index b 17

-- the type of the file in the header at the start of b (Type)
abbrev pub file_type_at : List ℕ → ℕ
file_type_at b = slice_index b 18

-- the attribute bits in the header at the start of b (Attributes)
abbrev pub attributes_at : List ℕ → ℕ
attributes_at b = slice_index b 19

-- the State byte in the header at the start of b (State)
abbrev pub state_at : List ℕ → ℕ
state_at b = slice_index b 23

-- the size of the file, including its header: Size of a short header, ExtendedSize of a large header
abbrev pub file_size_in : Bool → List ℕ → ℕ
file_size_in false b = le_at 20 3 b
file_size_in true b = le_at 24 8 b

-- the fields of the header at the start of b; the state is an argument
abbrev pub head_in : FileState → List ℕ → FileHead
head_in state b = record {
  name = guid_of (take 16 b);
  header_sum = header_sum_at b;
  file_sum = file_sum_at b;
  kind = file_type_at b;
  attributes = attributes_by (attributes_at b);
  size = file_size_in (is_large (attributes_at b)) b;
  header_len = file_header_len (is_large (attributes_at b));
  state = state;
}

-- the sum of a header's bytes modulo 256, with the file checksum at 17 (IntegrityCheck.Checksum.File) and State at 23
-- taken as zero
abbrev pub header_sum_of : List ℕ → ℕ
header_sum_of h = (sum (take 17 h) + sum (field 18 5 h) + sum (drop 24 h)) % 256

-- 0xAA, the file checksum of a file without the checksum attribute (FFS_FIXED_CHECKSUM)
abbrev pub fixed_checksum : ℕ
fixed_checksum = 0xaa

-- the file checksum is right: with the checksum attribute, the data and the file checksum sum to zero modulo 256;
-- otherwise the file checksum is 0xAA
abbrev pub file_sum_right : ℕ → ℕ → List ℕ → Bool
file_sum_right attributes file_sum payload =
    if is_summed attributes then (sum payload + file_sum) % 256 == 0 else file_sum == fixed_checksum

-- the bytes h are the header with these fields: State shows the state, and the header checksum is right. A large header
-- is allowed only in FFS3, and its Size is zero
pub record IsFileHeader (system : FileSystem) (polarity : Polarity) (head : FileHead) (h : List ℕ) : Type 0 where
  pub header_length : length h ≡ file_header_len (is_large (attributes_at h))
  pub fields : head ≡ head_in head.state h
  pub state : StateOf (state_at h) polarity head.state
  pub large : is_large (attributes_at h) ≡ true → (system ≡ Ffs3) × (le_at 20 3 h ≡ 0)
  pub sum : header_sum_of h ≡ 0

-- the bytes are a file: a header with these fields and then the data, and the size in the header is the number of these
-- bytes
pub record IsFile (system : FileSystem) (polarity : Polarity) (head : FileHead) (payload b : List ℕ) : Type 0 where
  pub header : List ℕ
  pub text : b ≡ header ++ payload
  pub is_header : IsFileHeader system polarity head header
  pub size : head.size ≡ length b

-- the file is sound: it is not a pad and not fixed, and its file checksum is right
pub record IsSound (head : FileHead) (payload : List ℕ) : Type 0 where
  pub kind : head.kind ≢ pad_kind
  pub moves : is_fixed (attribute_bits head.attributes) ≡ false
  pub file_sum : file_sum_right (attribute_bits head.attributes) head.file_sum payload ≡ true
