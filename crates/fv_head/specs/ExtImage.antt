-- The bytes of an extended header, and its place in the canonical image (PI specification, volume 3, section 3.2.1.2).
use Rattle.std.specs.Prelude.{ℕ, ◌+◌, if◌then◌else◌, List, [], ◌∷◌, ◌++◌, length, Option, None, Some}
use Rattle.fv_base.specs.Words.{bytes_of, le_bytes, up_to_8}
use Rattle.fv_head.specs.Ext.{Extension, is_used_size}
use Rattle.fv_head.specs.Head.{HeadFields, header_len_of}

-- the payload of an entry as it is written: `used` as a 4-byte number for a used size, otherwise the payload itself
abbrev pub payload_with : ℕ → ℕ × List ℕ → List ℕ
payload_with used e = if is_used_size e.0 e.1 then le_bytes 4 used else e.1

-- the bytes of an entry: its size, its type and its payload
abbrev pub entry_bytes : ℕ → ℕ × List ℕ → List ℕ
entry_bytes used e = le_bytes 2 (4 + length e.1) ++ le_bytes 2 e.0 ++ payload_with used e

-- the bytes of the entries, one after the other
abbrev pub entries_bytes : ℕ → List (ℕ × List ℕ) → List ℕ
entries_bytes used [] = []
entries_bytes used (e ∷ es) = entry_bytes used e ++ entries_bytes used es

-- the length of the entries in bytes
abbrev pub entries_len : List (ℕ × List ℕ) → ℕ
entries_len [] = 0
entries_len (e ∷ es) = (4 + length e.1) + entries_len es

-- the length of an extended header in bytes, ExtHeaderSize
abbrev pub ext_len : Extension → ℕ
ext_len x = 20 + entries_len x.entries + length x.tail

-- the bytes of an extended header: its name, its size, its entries (the value of each used size is `used`) and its tail
unfoldable pub ext_spelled : Extension → ℕ → List ℕ
ext_spelled x used = bytes_of x.name ++ le_bytes 4 (ext_len x) ++ entries_bytes used x.entries ++ x.tail

-- the offset at which the volume header of the canonical image ends or, if there is an extended header, at which the
-- pad file that holds it ends
abbrev pub canonical_end : HeadFields → Option Extension → ℕ
canonical_end h None = header_len_of h
canonical_end h (Some x) = header_len_of h + 24 + ext_len x

-- the first edge, which is the offset at which the first file of the canonical image may begin: `canonical_end`,
-- rounded up to a multiple of 8 if there is an extended header
abbrev pub first_edge : HeadFields → Option Extension → ℕ
first_edge h None = header_len_of h
first_edge h (Some x) = up_to_8 (canonical_end h (Some x))
