-- The inputs of the worked readings, which `src/worked_readings.rt` states: small volumes, byte by byte.
use Rattle.std.specs.Prelude.{ℕ, ◌+◌, List, [], ◌∷◌, ◌++◌, length, replicate, take, drop, Option}
use Rattle.fv_base.specs.declared.fault.Fault.{Fault}
use Rattle.fv_base.specs.declared.fault.FaultKind.{FaultKind}
use Rattle.fv_base.specs.declared.flash.FileSystem.TheVariants.{Ffs2}
use Rattle.fv_head.specs.Words.{Extension, HeadFields}
use Rattle.fv_tree.specs.Words.{top_name}

-- the header fields of a volume of n bytes: FFS2, one block of n bytes, erased bytes are 0xFF
abbrev pub head : ℕ → Option Extension → HeadFields
head n ext = record {
  zero_vector = replicate 16 0;
  file_system = Ffs2;
  length = n;
  attributes = 0x4feff;
  reserved = 0;
  blocks = (1, n) ∷ [];
  ext = ext;
}

-- the 72 bytes of a volume header with these fields, and with the given 4 bytes of the length, 2 bytes of the checksum
-- and low byte of ExtHeaderOffset
abbrev pub head_bytes : List ℕ → ℕ → ℕ → ℕ → List ℕ
head_bytes n c d offset =
    replicate 16 0 ++ ((0x78 ∷ 0xe5 ∷ 0x8c ∷ 0x8c ∷ 0x3d ∷ 0x8a ∷ 0x1c ∷ 0x4f ∷ 0x99 ∷ 0x35 ∷ 0x89 ∷ 0x61 ∷ 0x85 ∷ 0xc3 ∷ 0x2d ∷ 0xd3 ∷ [])
    ++ ((n ++ replicate 4 0)
    ++ ((0x5f ∷ 0x46 ∷ 0x56 ∷ 0x48 ∷ 0xff ∷ 0xfe ∷ 4 ∷ 0 ∷ 0x48 ∷ 0 ∷ c ∷ d ∷ offset ∷ 0 ∷ 0 ∷ 2 ∷ 1 ∷ 0 ∷ 0 ∷ 0 ∷ []) ++ (n ++ replicate 8 0))))

-- the header of a file with this name, header checksum, file checksum, type, attributes, size and State
abbrev pub file_bytes : List ℕ → ℕ → ℕ → ℕ → ℕ → ℕ → ℕ → List ℕ
file_bytes name hs fs kind attributes size state = name ++ (hs ∷ fs ∷ kind ∷ attributes ∷ size ∷ 0 ∷ 0 ∷ state ∷ [])

-- the header of a file whose name is 16 times the byte n, and whose data are valid
abbrev pub file_header_bytes : ℕ → ℕ → ℕ → ℕ → ℕ → ℕ → List ℕ
file_header_bytes n hs fs kind attributes size = file_bytes (replicate 16 n) hs fs kind attributes size 0xf8

-- a fault of this kind at this offset and depth
abbrev pub fault_at : FaultKind → ℕ → ℕ → Fault
fault_at kind offset depth = record { kind = kind; place = record { offset = offset; depth = depth } }

-- the bytes b with other bytes from the offset `at` on
abbrev pub changed : ℕ → List ℕ → List ℕ → List ℕ
changed at new b = take at b ++ (new ++ drop (at + length new) b)

-- the smallest volume: a header of 72 bytes and no body
abbrev pub smallest_volume : List ℕ
smallest_volume = head_bytes (72 ∷ 0 ∷ 0 ∷ 0 ∷ []) 0x3e 0xf6 0

-- a volume of 128 bytes without files
abbrev pub empty_volume : List ℕ
empty_volume = head_bytes (128 ∷ 0 ∷ 0 ∷ 0 ∷ []) 0xce 0xf5 0 ++ replicate 56 0xff

-- a volume of 128 bytes with these bytes at the start of its body, from the offset 72 on
abbrev pub volume_with : List ℕ → List ℕ
volume_with bytes = changed 72 bytes empty_volume

-- a header that states 268,435,464 bytes, which is 8 more than the limit
abbrev pub long_header : List ℕ
long_header = head_bytes (8 ∷ 0 ∷ 0 ∷ 0x10 ∷ []) 0xbe 0xd6 0

-- a volume of 136 bytes with nine groups, each of which is the body of the group before it
abbrev pub nine_groups : List ℕ
nine_groups = head_bytes (136 ∷ 0 ∷ 0 ∷ 0 ∷ []) 0xbe 0xf5 0 ++ (file_header_bytes 0x0a 0x22 0xaa 2 0 60
    ++ (0x24 ∷ 0 ∷ 0 ∷ 3 ∷ 0x20 ∷ 0 ∷ 0 ∷ 3 ∷ 0x1c ∷ 0 ∷ 0 ∷ 3 ∷ 0x18 ∷ 0 ∷ 0 ∷ 3 ∷ 0x14 ∷ 0 ∷ 0 ∷ 3 ∷ 0x10 ∷ 0 ∷ 0 ∷ 3
    ∷ 0x0c ∷ 0 ∷ 0 ∷ 3 ∷ 0x08 ∷ 0 ∷ 0 ∷ 3 ∷ 0x04 ∷ 0 ∷ 0 ∷ 3 ∷ replicate 4 0xff))

-- a volume of 104 bytes whose extended header, of 20 bytes, directly follows the volume header. In the canonical image
-- the extended header is the data of a pad file, which would end at 116
abbrev pub no_room_for_pad : List ℕ
no_room_for_pad = head_bytes (104 ∷ 0 ∷ 0 ∷ 0 ∷ []) 0xb6 0xf5 0x48 ++ (replicate 16 0x0e ++ (0x14 ∷ 0 ∷ 0 ∷ 0 ∷ replicate 12 0xff))

-- a volume of 176 bytes whose last file is a volume top file of 32 bytes with alignment 16. Its data begin at 168
abbrev pub misaligned_top : List ℕ
misaligned_top = head_bytes (176 ∷ 0 ∷ 0 ∷ 0 ∷ []) 0x6e 0xf5 0 ++ (file_header_bytes 0x0a 0x47 0xaa 1 0 24
    ++ (file_header_bytes 0x0b 0x2f 0xaa 1 8 24 ++ (file_header_bytes 0xff 0x08 0xaa 0xf0 0 24
    ++ (file_bytes top_name 0xe2 0xaa 1 8 32 0xf8 ++ replicate 8 0))))
