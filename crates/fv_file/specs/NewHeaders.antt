-- File headers as they are written (PI specification, volume 3, section 3.2.3.1).
use Rattle.std.specs.Prelude.{ℕ, ◌+◌, ◌-◌, ◌%◌, nat_lt, Bool, false, if◌then◌else◌, List, [], ◌∷◌, ◌++◌, replicate, sum}
use Rattle.fv_base.specs.Words.{bytes_of, le_bytes}
use Rattle.fv_base.specs.declared.flash.Polarity.{Polarity}
use Rattle.fv_base.specs.declared.guid.Guid.{Guid}
use Rattle.fv_base.specs.declared.flash.Polarity.TheVariants.{Ones, Zeros}
use Rattle.fv_file.specs.FileAttributes.{attribute_bits, is_summed}
use Rattle.fv_file.specs.FileHeaders.{file_header_len, fixed_checksum, pad_kind}
use Rattle.fv_file.specs.declared.attributes.FileAttributes.{FileAttributes}

-- a file with this much data needs a large header: with a short header its size would be more than 0xFFFFFF
abbrev pub needs_large : ℕ → Bool
needs_large data_len = nat_lt 0xffffff (24 + data_len)

-- the attribute bits, with 0x01 set for a large header; this bit is clear in `attributes`
abbrev pub with_large : Bool → ℕ → ℕ
with_large large attributes = if large then attributes + 1 else attributes

-- the State byte of a new file, in which the bits 0x01, 0x02 and 0x04 were written: 0x07, or 0xF8 if erased bytes are
-- 0xFF
abbrev pub state_byte : Polarity → ℕ
state_byte Ones = 0xf8
state_byte Zeros = 0x07

-- the name of a pad: sixteen bytes 0xFF
abbrev pub pad_name : List ℕ
pad_name = replicate 16 0xff

-- the least number that, added to n, makes a multiple of 256
abbrev pub complement : ℕ → ℕ
complement n = (256 - n % 256) % 256

-- the file checksum for these data: with the checksum attribute, the least number that, added to their sum, makes a
-- multiple of 256; otherwise 0xAA
abbrev pub file_sum_for : ℕ → List ℕ → ℕ
file_sum_for attributes payload = if is_summed attributes then complement (sum payload) else fixed_checksum

-- the bytes of a header with these two checksums, in order. In a large header Size is zero, and ExtendedSize, after
-- State, states the size
abbrev pub header_with : ℕ → ℕ → List ℕ → ℕ → ℕ → ℕ → Bool → ℕ → List ℕ
header_with header_sum file_sum name kind attributes size large state =
    name ++ (header_sum ∷ file_sum ∷ kind ∷ attributes ∷ [])
    ++ (if large then le_bytes 3 0 else le_bytes 3 size) ++ (state ∷ []) ++ (if large then le_bytes 8 size else [])

-- the bytes of a header with the right header checksum, for which the file checksum and State count as zero
unfoldable pub header_bytes : ℕ → List ℕ → ℕ → ℕ → ℕ → Bool → ℕ → List ℕ
header_bytes file_sum name kind attributes size large state =
    header_with (complement (sum (header_with 0 0 name kind attributes size large 0))) file_sum name kind
    attributes size large state

-- the bytes of the header of a new file with valid data (`file_head_of`), and of a new pad (`pad_head_of`)
abbrev pub file_head_of : Guid → ℕ → FileAttributes → ℕ → ℕ → Polarity → List ℕ
file_head_of name kind attributes data_len file_sum polarity =
    header_bytes file_sum (bytes_of name) kind (with_large (needs_large data_len) (attribute_bits attributes))
    (file_header_len (needs_large data_len) + data_len) (needs_large data_len) (state_byte polarity)

abbrev pub pad_head_of : ℕ → Polarity → List ℕ
pad_head_of size polarity = header_bytes fixed_checksum pad_name pad_kind 0 size false (state_byte polarity)
