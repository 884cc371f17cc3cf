-- File headers at the start of some bytes, and written headers that are read back (PI specification, volume 3, section
-- 3.2.3.1).
use Rattle.std.specs.Prelude.{◌≡◌, ℕ, ◌+◌, ◌%◌, ◌⊎◌, Bool, true, false, List, ◌++◌, length, ◌<◌}
use Rattle.fv_base.specs.Words.{guid_of, bytes_of, IsBytes}
use Rattle.fv_base.specs.declared.flash.FileSystem.{FileSystem}
use Rattle.fv_base.specs.declared.flash.Polarity.{Polarity}
use Rattle.fv_base.specs.declared.guid.Guid.{Guid}
use Rattle.fv_base.specs.declared.flash.FileSystem.TheVariants.{Ffs3}
use Rattle.fv_file.specs.Cells.{IsCell, Valid, Pad}
use Rattle.fv_file.specs.FileAttributes.{attribute_bits, attributes_by, is_large}
use Rattle.fv_file.specs.FileHeaders.{pad_kind, file_header_len, state_at, fixed_checksum, IsFileHeader, IsFile}
use Rattle.fv_file.specs.FileHeaders.{IsSound}
use Rattle.fv_file.specs.NewHeaders.{needs_large, with_large, state_byte, pad_name}
use Rattle.fv_file.specs.States.{is_alive}
use Rattle.fv_file.specs.declared.attributes.FileAttributes.{FileAttributes}
use Rattle.fv_file.specs.declared.head.FileHead.{FileHead}
use Rattle.fv_file.specs.declared.state.FileState.TheVariants as states

-- the bytes begin with a file that has this header: the file is valid by its state, and it is a pad or sound
-- (`IsSound`). Any bytes may follow
pub record BeginsFile (system : FileSystem) (polarity : Polarity) (head : FileHead) (b : List ℕ) : Type 0 where
  pub file : List ℕ
  pub payload : List ℕ
  pub rest : List ℕ
  pub text : b ≡ file ++ rest
  pub is_file : IsFile system polarity head payload file
  pub alive : is_alive head.state ≡ true
  pub content : (head.kind ≡ pad_kind) ⊎ IsSound head payload

-- the bytes h are the header with these fields and the State byte of a new file, in each file system that allows this
-- header
pub record IsNewHeader (polarity : Polarity) (head : FileHead) (h : List ℕ) : Type 0 where
  pub header : (system : FileSystem) → (is_large (attribute_bits head.attributes) ≡ true → system ≡ Ffs3)
      → IsFileHeader system polarity head h
  pub state : state_at h ≡ state_byte polarity
  pub bytes : IsBytes h

-- h begins the cell of a valid file, in each file system that allows this header. Any data of the right length that
-- make the file sound may follow, and then any filler of 0 to 7 bytes up to a multiple of 8
abbrev pub IsHeadOfFile : Polarity → FileHead → List ℕ → Type 0
IsHeadOfFile polarity head h =
    (system : FileSystem) (at : ℕ) (payload filler : List ℕ)
    → (is_large (attribute_bits head.attributes) ≡ true → system ≡ Ffs3)
    → head.size ≡ length h + length payload → IsSound head payload → length filler < 8
    → (head.size + length filler) % 8 ≡ 0
    → IsCell system polarity (Valid at head payload) (h ++ (payload ++ filler))

-- h begins the cell of a pad, in each file system. Any bytes may follow, as many as the size requires, and then any
-- filler of 0 to 7 bytes up to a multiple of 8
abbrev pub IsHeadOfPad : Polarity → FileHead → List ℕ → Type 0
IsHeadOfPad polarity head h =
    (system : FileSystem) (at : ℕ) (payload filler : List ℕ) → head.size ≡ length h + length payload → length filler < 8
    → (head.size + length filler) % 8 ≡ 0 → IsCell system polarity (Pad at head payload) (h ++ (payload ++ filler))

-- the fields of a new header (`header_fields`): of a file with valid data (`file_fields`), and of a pad (`pad_fields`).
-- The header checksum is an argument
abbrev pub header_fields : List ℕ → ℕ → ℕ → ℕ → Bool → ℕ → ℕ → FileHead
header_fields name kind attributes size large header_sum file_sum = record {
  name = guid_of name;
  kind = kind;
  attributes = attributes_by attributes;
  size = size;
  header_len = file_header_len large;
  header_sum = header_sum;
  file_sum = file_sum;
  state = states.DataValid;
}

abbrev pub file_fields : Guid → ℕ → FileAttributes → ℕ → ℕ → ℕ → FileHead
file_fields name kind attributes data_len file_sum header_sum =
    header_fields (bytes_of name) kind (with_large (needs_large data_len) (attribute_bits attributes))
    (file_header_len (needs_large data_len) + data_len) (needs_large data_len) header_sum file_sum

abbrev pub pad_fields : ℕ → ℕ → FileHead
pad_fields size header_sum = header_fields pad_name pad_kind 0 size false header_sum fixed_checksum
