-- The checks of a volume's header in order, and the statement that bytes begin with a volume (PI specification, volume
-- 3, sections 3.2.1.1 and 3.2.1.2).
use Rattle.std.specs.Prelude.{ℕ, ◌+◌, ◌||◌, ◌-◌, ◌%◌, ◌==◌, nat_le, Bool, ◌&&◌, not, is_some, if◌then◌else◌, List, []}
use Rattle.std.specs.Prelude.{◌∷◌, ◌++◌, length, take, slice_index, Option, None, Some}
use Rattle.std.specs.Str.{bytes_eq}
use Rattle.std.specs.List.{list_all}
use Rattle.fv_base.specs.Words.{Check, check, volume_limit, header_limit, ext_limit, sum16_of, field, le_at}
use Rattle.fv_base.specs.declared.fault.Fault.{Fault}
use Rattle.fv_base.specs.declared.flash.FileSystem.{FileSystem}
use Rattle.fv_base.specs.declared.fault.FaultKind.TheVariants as kinds
use Rattle.fv_base.specs.declared.flash.FileSystem.TheVariants.{Ffs2, Ffs3}
use Rattle.fv_head.specs.Head.{HeadFields, BeginsVolume, signature_bytes, system_guid}
use Rattle.fv_head.specs.Pairs.{pairs_of, bytes_in}
use Rattle.fv_head.specs.declared.extent.Extent.{Extent}

-- Signature is _FVH
abbrev pub has_signature : List ℕ → Bool
has_signature b = bytes_eq (field 40 4 b) signature_bytes

-- the file system whose GUID is at offset 16, if this is the GUID of FFS2 or FFS3
abbrev pub file_system_at : List ℕ → Option FileSystem
file_system_at b =
    if bytes_eq (field 16 16 b) (system_guid Ffs2) then Some Ffs2
    else (if bytes_eq (field 16 16 b) (system_guid Ffs3) then Some Ffs3 else None)

-- HeaderLength and FvLength, as read from the header
abbrev pub header_len_at : List ℕ → ℕ
header_len_at b = le_at 48 2 b

abbrev pub volume_len_at : List ℕ → ℕ
volume_len_at b = le_at 32 8 b

-- a volume header may have n bytes: n is a multiple of 8 from 64 to `header_limit`
abbrev pub is_header_len : ℕ → Bool
is_header_len n = (n % 8 == 0) && nat_le 64 n && nat_le n header_limit

-- the 16-bit words of the first n bytes sum to 0 modulo 65536
abbrev pub has_sum : ℕ → List ℕ → Bool
has_sum n b = sum16_of (take n b) == 0

-- both numbers of the pair are zero
abbrev pub is_zero_pair : ℕ × ℕ → Bool
is_zero_pair p = (p.0 == 0) && (p.1 == 0)

-- the bytes claim to be exactly one volume: there are at least 56 bytes, the signature and the GUID of the file system
-- are right, and FvLength is the number of bytes. Nothing else is checked
abbrev pub is_one_volume : List ℕ → Bool
is_one_volume b = nat_le 56 (length b) && has_signature b && is_some (file_system_at b) && (volume_len_at b == length b)

-- no pair is a pair of zeros, and the blocks of all pairs together have `total` bytes
abbrev pub makes_up : List (ℕ × ℕ) → ℕ → Bool
makes_up blocks total = list_all (λ p. not (is_zero_pair p)) blocks && (bytes_in blocks == total)

-- the pairs of the block map of a header of n bytes, except the last pair
abbrev pub blocks_at : ℕ → List ℕ → List (ℕ × ℕ)
blocks_at n b = pairs_of (field 56 (n - 64) b)

-- in a header of n bytes, the first pair of zeros is at the end, and the blocks of the pairs before it together have
-- FvLength bytes
abbrev pub has_block_map : ℕ → List ℕ → Bool
has_block_map n b =
    makes_up (blocks_at n b) (volume_len_at b) && is_zero_pair (le_at (n - 8) 4 b, le_at (n - 4) 4 b)

-- a volume with a header of n bytes may have len bytes: len is a multiple of 8, at least n and at most `volume_limit`
abbrev pub is_volume_len : ℕ → ℕ → Bool
is_volume_len n len = (len % 8 == 0) && nat_le n len && nat_le len volume_limit

-- ExtHeaderOffset, and ExtHeaderSize of the extended header at that offset
abbrev pub ext_offset_at : List ℕ → ℕ
ext_offset_at b = le_at 52 2 b

abbrev pub ext_size_at : List ℕ → ℕ
ext_size_at b = le_at (ext_offset_at b + 16) 4 b

-- there is no extended header, or it has 20 to `ext_limit` bytes and lies after the header of n bytes and within the
-- volume of len bytes
abbrev pub has_ext : ℕ → ℕ → List ℕ → Bool
has_ext n len b =
    (ext_offset_at b == 0)
    || (nat_le n (ext_offset_at b) && nat_le (ext_offset_at b + 20) len && nat_le 20 (ext_size_at b)
    && nat_le (ext_size_at b) ext_limit
    && nat_le (ext_offset_at b + ext_size_at b) len)

-- the checks of the first 56 bytes of a header, in order, each with its fault
abbrev pub leading_checks : List ℕ → List (Check Fault)
leading_checks b =
    check (nat_le 56 (length b)) kinds.Truncated (length b)
    ∷ check (has_signature b) kinds.Signature 40
    ∷ check (is_some (file_system_at b)) kinds.FileSystem 16
    ∷ check (slice_index b 55 == 2) kinds.Revision 55
    ∷ check (is_header_len (header_len_at b)) kinds.HeaderLength 48
    ∷ []

-- the checks after the leading checks, in order, each with its fault: all HeaderLength bytes are there, their checksum,
-- the block map, FvLength, all FvLength bytes are there, and the extended header
abbrev pub later_checks : List ℕ → List (Check Fault)
later_checks b =
    check (nat_le (header_len_at b) (length b)) kinds.Truncated (length b)
    ∷ check (has_sum (header_len_at b) b) kinds.HeaderSum 0
    ∷ check (has_block_map (header_len_at b) b) kinds.BlockMap 56
    ∷ check (is_volume_len (header_len_at b) (volume_len_at b)) kinds.Length 32
    ∷ check (nat_le (volume_len_at b) (length b)) kinds.Truncated (length b)
    ∷ check (has_ext (header_len_at b) (volume_len_at b) b) kinds.ExtHeader 52
    ∷ []

-- all checks of a header, in order, each with its fault
abbrev pub head_checks : List ℕ → List (Check Fault)
head_checks b = leading_checks b ++ later_checks b

-- the bytes begin with the header of a volume, and there are at least FvLength bytes. The body of the volume may have
-- faults. A call that reads the bytes as a volume takes memory only in this case
abbrev pub BeginsWithHeader : List ℕ → Type 0
BeginsWithHeader b = (h : HeadFields) × (e : Extent) × BeginsVolume h e b
