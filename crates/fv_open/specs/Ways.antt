-- The ways to open a section, by the type of a compression section and by the GUID of a GUID-defined section (PI
-- specification, volume 3, sections 3.2.5.2, EFI_COMPRESSION_SECTION, and 3.2.5.7, EFI_GUID_DEFINED_SECTION). The GUIDs
-- are as a section stores them.
use Rattle.std.specs.Prelude.{ℕ, ◌%◌, ◌==◌, ◌||◌, Bool, true, false, if◌then◌else◌, List, [], ◌∷◌, Option, None, Some}
use Rattle.std.specs.Str.{bytes_eq}
use Rattle.fv_open.specs.declared.way.Way.{Way}
use Rattle.fv_open.specs.declared.way.Way.TheVariants as ways

-- LZMA: ee4e5898-3914-4259-9d6e-dc7bd79403cf
abbrev pub lzma_guid : List ℕ
lzma_guid =
    0x98 ∷ 0x58 ∷ 0x4e ∷ 0xee ∷ 0x14 ∷ 0x39 ∷ 0x59 ∷ 0x42 ∷ 0x9d ∷ 0x6e ∷ 0xdc ∷ 0x7b ∷ 0xd7 ∷ 0x94 ∷ 0x03 ∷ 0xcf ∷ []

-- LZMA, in firmware of HP: 0ed85e23-f253-413f-a03c-901987b04397
abbrev pub lzma_hp_guid : List ℕ
lzma_hp_guid =
    0x23 ∷ 0x5e ∷ 0xd8 ∷ 0x0e ∷ 0x53 ∷ 0xf2 ∷ 0x3f ∷ 0x41 ∷ 0xa0 ∷ 0x3c ∷ 0x90 ∷ 0x19 ∷ 0x87 ∷ 0xb0 ∷ 0x43 ∷ 0x97 ∷ []

-- LZMA of x86 code: d42ae6bd-1352-4bfb-909a-ca72a6eae889
abbrev pub lzma_x86_guid : List ℕ
lzma_x86_guid =
    0xbd ∷ 0xe6 ∷ 0x2a ∷ 0xd4 ∷ 0x52 ∷ 0x13 ∷ 0xfb ∷ 0x4b ∷ 0x90 ∷ 0x9a ∷ 0xca ∷ 0x72 ∷ 0xa6 ∷ 0xea ∷ 0xe8 ∷ 0x89 ∷ []

-- Tiano's compression: a31280ad-481e-41b6-95e8-127f4c984779
abbrev pub tiano_guid : List ℕ
tiano_guid =
    0xad ∷ 0x80 ∷ 0x12 ∷ 0xa3 ∷ 0x1e ∷ 0x48 ∷ 0xb6 ∷ 0x41 ∷ 0x95 ∷ 0xe8 ∷ 0x12 ∷ 0x7f ∷ 0x4c ∷ 0x98 ∷ 0x47 ∷ 0x79 ∷ []

-- CRC32: fc1bcdb0-7d31-49aa-936a-a4600d9dd083
abbrev pub crc32_guid : List ℕ
crc32_guid =
    0xb0 ∷ 0xcd ∷ 0x1b ∷ 0xfc ∷ 0x31 ∷ 0x7d ∷ 0xaa ∷ 0x49 ∷ 0x93 ∷ 0x6a ∷ 0xa4 ∷ 0x60 ∷ 0x0d ∷ 0x9d ∷ 0xd0 ∷ 0x83 ∷ []

-- a signature by RSA 2048 and SHA-256: a7717414-c616-4977-9420-844712a735bf
abbrev pub rsa_sha256_guid : List ℕ
rsa_sha256_guid =
    0x14 ∷ 0x74 ∷ 0x71 ∷ 0xa7 ∷ 0x16 ∷ 0xc6 ∷ 0x77 ∷ 0x49 ∷ 0x94 ∷ 0x20 ∷ 0x84 ∷ 0x47 ∷ 0x12 ∷ 0xa7 ∷ 0x35 ∷ 0xbf ∷ []

-- signed firmware contents: 0f9d89e8-9259-4f76-a5af-0c89e34023df
abbrev pub contents_signed_guid : List ℕ
contents_signed_guid =
    0xe8 ∷ 0x89 ∷ 0x9d ∷ 0x0f ∷ 0x59 ∷ 0x92 ∷ 0x76 ∷ 0x4f ∷ 0xa5 ∷ 0xaf ∷ 0x0c ∷ 0x89 ∷ 0xe3 ∷ 0x40 ∷ 0x23 ∷ 0xdf ∷ []

-- the way of a compression section by its CompressionType, if it is known
abbrev pub compression_way : ℕ → Option Way
compression_way kind =
    if kind == 0 then Some ways.Stored
    else if kind == 1 then Some ways.Standard
    else if kind == 2 then Some ways.Customized
    else if kind == 0x86 then Some ways.LzmaX86
    else None

-- the way of a GUID-defined section by its GUID, if it is known
abbrev pub guid_way : List ℕ → Option Way
guid_way g =
    if bytes_eq g lzma_guid || bytes_eq g lzma_hp_guid then Some ways.Lzma
    else if bytes_eq g lzma_x86_guid then Some ways.LzmaX86
    else if bytes_eq g tiano_guid then Some ways.Tiano
    else if bytes_eq g crc32_guid then Some ways.Crc32
    else if bytes_eq g rsa_sha256_guid || bytes_eq g contents_signed_guid then Some ways.Signed
    else None

-- the way of a GUID-defined section by its GUID or, if the GUID is not known, by its Attributes: bit 0x01 says that the
-- contents have to be processed
abbrev pub guided_way : List ℕ → ℕ → Option Way
guided_way g attributes = way_or_plain (guid_way g) attributes where
  way_or_plain : Option Way → ℕ → Option Way
  way_or_plain (Some way) attributes = Some way
  way_or_plain None attributes = if attributes % 2 == 0 then Some ways.Plain else None

-- whether the contents have to be decoded; otherwise they are part of the section as they are
abbrev pub is_decoded : Way → Bool
is_decoded ways.Standard = true
is_decoded ways.Uefi = true
is_decoded ways.Tiano = true
is_decoded ways.Customized = true
is_decoded ways.Lzma = true
is_decoded ways.LzmaX86 = true
is_decoded _ = false
