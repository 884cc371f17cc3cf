-- The bytes of a volume header, field by field (PI specification, volume 3, section 3.2.1.1).
use Rattle.std.specs.Prelude.{ℕ, ◌-◌, ◌%◌, List, [], ◌∷◌, ◌++◌}
use Rattle.fv_base.specs.Words.{sum16_of, le_bytes}
use Rattle.fv_head.specs.Head.{HeadFields, signature_bytes, system_guid, header_len_of, canonical_offset}
use Rattle.fv_head.specs.Pairs.{pairs_bytes}

-- the bytes of a header with these fields, this Checksum and this ExtHeaderOffset
unfoldable pub head_spelled : HeadFields → ℕ → ℕ → List ℕ
head_spelled h checksum offset =
    h.zero_vector ++ system_guid h.file_system ++ le_bytes 8 h.length ++ signature_bytes ++ le_bytes 4 h.attributes
    ++ le_bytes 2 (header_len_of h) ++ le_bytes 2 checksum ++ le_bytes 2 offset ++ (h.reserved ∷ 2 ∷ [])
    ++ pairs_bytes h.blocks ++ le_bytes 8 0

-- the Checksum that makes the 16-bit words of the header sum to 0 modulo 65536
abbrev pub checksum_of : HeadFields → ℕ → ℕ
checksum_of h offset = (65536 - sum16_of (head_spelled h 0 offset)) % 65536

-- the volume header of the canonical image
unfoldable pub canonical_head : HeadFields → List ℕ
canonical_head h = head_spelled h (checksum_of h (canonical_offset h h.ext)) (canonical_offset h h.ext)
