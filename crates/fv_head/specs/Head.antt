-- The header that a volume begins with (PI specification, volume 3, section 3.2.1.1, EFI_FIRMWARE_VOLUME_HEADER).
use Rattle.std.specs.Prelude.{◌≡◌, ◌≢◌, ◌≤◌, ◌+◌, ◌*◌, ◌%◌, ℕ, List, [], ◌∷◌, ◌++◌, length, take, drop, slice_index}
use Rattle.std.specs.Prelude.{Option, None, Some}
use Rattle.std.specs.List.{AllByRecursion}
use Rattle.fv_base.specs.Words.{volume_limit, header_limit, sum16_of, IsBytes, field, le_at, up_to_8}
use Rattle.fv_base.specs.declared.flash.FileSystem.{FileSystem}
use Rattle.fv_base.specs.declared.flash.FileSystem.TheVariants.{Ffs2, Ffs3}
use Rattle.fv_head.specs.declared.extent.Extent.{Extent}
use Rattle.fv_head.specs.Ext.{Extension, IsExt}
use Rattle.fv_head.specs.Pairs.{pairs_of, bytes_in}
use Rattle.fv_head.specs.VolumeAttributes.{polarity_of}

-- the bytes of the signature `_FVH`
abbrev pub signature_bytes : List ℕ
signature_bytes = 0x5f ∷ 0x46 ∷ 0x56 ∷ 0x48 ∷ []

-- the GUID of a file system, as it is stored in a volume (section 3.2.2)
abbrev pub system_guid : FileSystem → List ℕ
system_guid Ffs2 =
    0x78 ∷ 0xe5 ∷ 0x8c ∷ 0x8c ∷ 0x3d ∷ 0x8a ∷ 0x1c ∷ 0x4f ∷ 0x99 ∷ 0x35 ∷ 0x89 ∷ 0x61 ∷ 0x85 ∷ 0xc3 ∷ 0x2d ∷ 0xd3 ∷ []
system_guid Ffs3 =
    0x7a ∷ 0xc0 ∷ 0x73 ∷ 0x54 ∷ 0xcb ∷ 0x3d ∷ 0xca ∷ 0x4d ∷ 0xbd ∷ 0x6f ∷ 0x1e ∷ 0x96 ∷ 0x89 ∷ 0xe7 ∷ 0x34 ∷ 0x9a ∷ []

-- the meaning of a volume header: zero vector, file system, length of the volume, attributes, reserved byte, block map
-- (without the pair of zeros), and the extended header, if there is one
pub record HeadFields : Type 0 where
  pub zero_vector : List ℕ
  pub file_system : FileSystem
  pub length : ℕ
  pub attributes : ℕ
  pub reserved : ℕ
  pub blocks : List (ℕ × ℕ)
  pub ext : Option Extension

-- the bytes are a volume header: ZeroVector, FileSystemGuid, FvLength, Attributes, Reserved and BlockMap have the
-- values of h, and Signature, HeaderLength, Checksum and Revision are right. Checksum is right if the 16-bit words of
-- the header sum to 0. ExtHeaderOffset may be any number here: `HasExt` states which bytes are at that offset
pub record IsHead (h : HeadFields) (b : List ℕ) : Type 0 where
  pub bytes : IsBytes b
  pub zero_vector : field 0 16 b ≡ h.zero_vector
  pub file_system : field 16 16 b ≡ system_guid h.file_system
  pub volume_length : le_at 32 8 b ≡ h.length
  pub signature : field 40 4 b ≡ signature_bytes
  pub attributes : le_at 44 4 b ≡ h.attributes
  pub header_length : le_at 48 2 b ≡ length b
  pub reserved : slice_index b 54 ≡ h.reserved
  pub revision : slice_index b 55 ≡ 2
  pub block_map : pairs_of (drop 56 b) ≡ h.blocks ++ ((0, 0) ∷ [])
  pub no_pair_of_zeros : AllByRecursion (λ p. p ≢ (0, 0)) h.blocks
  pub sum : sum16_of b ≡ 0
  pub multiple : length b % 8 ≡ 0
  pub least : 64 ≤ length b
  pub most : length b ≤ header_limit
  pub makes_up : bytes_in h.blocks ≡ h.length
  pub volume_multiple : h.length % 8 ≡ 0
  pub volume_least : length b ≤ h.length
  pub volume_most : h.length ≤ volume_limit

-- the length in bytes of a header with these fields
abbrev pub header_len_of : HeadFields → ℕ
header_len_of h = 56 + 8 * (length h.blocks + 1)

-- the bytes at ExtHeaderOffset are an extended header with the meaning x, after the volume header and within the
-- volume, and the first file may begin at the end of the extended header, rounded up to a multiple of 8. Or there is no
-- extended header: ExtHeaderOffset is 0, and the first file may begin at HeaderLength
abbrev pub HasExt : Option Extension → Extent → List ℕ → Type 0
HasExt None e b = (le_at 52 2 b ≡ 0) × (e.first ≡ e.header_len)
HasExt (Some x) e b =
    (before : List ℕ) × (part : List ℕ) × (after : List ℕ) × (b ≡ before ++ (part ++ after))
    × (length before ≡ le_at 52 2 b)
    × (e.header_len ≤ length before) × (length before + length part ≤ e.length) × IsExt x part
    × (e.first ≡ up_to_8 (length before + length part))

-- the bytes begin with a volume that has this header and this extent: there are at least FvLength bytes, and the
-- extended header, if there is one, is where the volume header says. The body of the volume is not checked
pub record BeginsVolume (h : HeadFields) (e : Extent) (b : List ℕ) : Type 0 where
  pub head : IsHead h (take e.header_len b)
  pub long_enough : e.header_len ≤ length b
  pub is_within : e.length ≤ length b
  pub ext : HasExt h.ext e b
  pub length_is : e.length ≡ h.length
  pub file_system : e.file_system ≡ h.file_system
  pub polarity : e.polarity ≡ polarity_of h.attributes

-- ExtHeaderOffset in the canonical image: 0 if there is no extended header, and otherwise HeaderLength + 24, after the
-- header of the pad file that follows the volume header
abbrev pub canonical_offset : HeadFields → Option Extension → ℕ
canonical_offset h None = 0
canonical_offset h (Some x) = header_len_of h + 24
