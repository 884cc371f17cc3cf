-- The first bytes of a volume header, up to the block map (PI specification, volume 3, section 3.2.1.1).
use Rattle.std.specs.Prelude.{ℕ, List, [], ◌∷◌, ◌++◌}
use Rattle.fv_base.specs.Words.{le_bytes}
use Rattle.fv_head.specs.Head.{HeadFields, signature_bytes, system_guid, header_len_of}

-- the bytes up to the block map of a header with these fields, this Checksum and this ExtHeaderOffset
abbrev pub front_spelled : HeadFields → ℕ → ℕ → List ℕ
front_spelled h checksum offset =
    h.zero_vector ++ system_guid h.file_system ++ le_bytes 8 h.length ++ signature_bytes ++ le_bytes 4 h.attributes
    ++ le_bytes 2 (header_len_of h) ++ le_bytes 2 checksum ++ le_bytes 2 offset ++ (h.reserved ∷ 2 ∷ [])
