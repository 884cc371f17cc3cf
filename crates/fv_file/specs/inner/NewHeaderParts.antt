-- The fields of a new header, and how its bytes are put together.
use Rattle.std.specs.Prelude.{◌≡◌, ◌+◌, ◌<◌, ℕ, Bool, false, if◌then◌else◌, List, ◌∷◌, ◌++◌}
use Rattle.fv_base.specs.Words.{bytes_of, guid_of, le_bytes}
use Rattle.fv_base.specs.declared.flash.Polarity.{Polarity}
use Rattle.fv_base.specs.declared.guid.Guid.{Guid}
use Rattle.fv_file.specs.FileAttributes.{attribute_bits, attributes_by, is_large}
use Rattle.fv_file.specs.FileHeaders.{file_header_len, fixed_checksum, pad_kind}
use Rattle.fv_file.specs.NewHeaders.{header_with, header_bytes, needs_large, pad_name, state_byte, with_large}
use Rattle.fv_file.specs.declared.attributes.FileAttributes.{FileAttributes}
use Rattle.fv_file.specs.declared.new_header.NewHeader.{NewHeader}

-- the fields of the header of a new file, and of the header of a new pad
abbrev pub file_header : Guid → ℕ → FileAttributes → ℕ → ℕ → NewHeader
file_header name kind attributes data_len file_sum = record {
  name = name;
  kind = kind;
  attributes = attributes_by (with_large (needs_large data_len) (attribute_bits attributes));
  size = file_header_len (needs_large data_len) + data_len;
  file_sum = file_sum;
}

abbrev pub pad_header : ℕ → NewHeader
pad_header size = record {
  name = guid_of pad_name;
  kind = pad_kind;
  attributes = attributes_by 0;
  size = size;
  file_sum = fixed_checksum;
}

-- the two size fields, with State between them; the size field that the form does not use is zero
abbrev pub size_fields : ℕ → Bool → ℕ → List ℕ
size_fields size large state =
    le_bytes 3 (if large then 0 else size) ++ (state ∷ le_bytes 8 (if large then size else 0))

-- the size fits in the size field of a short header, if the header is short
abbrev pub HasPlace : NewHeader → Type 0
HasPlace header = is_large (attribute_bits header.attributes) ≡ false → header.size < 0x1000000

-- the bytes of a header with these two checksums and this State; a short header is followed by zeros up to 32 bytes
abbrev pub whole_bytes : NewHeader → ℕ → ℕ → ℕ → List ℕ
whole_bytes header header_sum file_sum state =
    bytes_of header.name
    ++ (header_sum ∷ file_sum ∷ header.kind ∷ attribute_bits header.attributes
    ∷ size_fields header.size (is_large (attribute_bits header.attributes)) state)

-- the bytes of the header with these fields, these two checksums and this State; `new_header_bytes` computes the right
-- header checksum instead
abbrev pub header_of : NewHeader → ℕ → ℕ → ℕ → List ℕ
header_of header header_sum file_sum state =
    header_with header_sum file_sum (bytes_of header.name) header.kind (attribute_bits header.attributes) header.size
    (is_large (attribute_bits header.attributes)) state

abbrev pub new_header_bytes : NewHeader → Polarity → List ℕ
new_header_bytes header polarity =
    header_bytes header.file_sum (bytes_of header.name) header.kind (attribute_bits header.attributes) header.size
    (is_large (attribute_bits header.attributes)) (state_byte polarity)
