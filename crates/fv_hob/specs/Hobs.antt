-- Hand-off blocks, and their bytes (PI specification, volume 3, section 5).
use Rattle.std.specs.Prelude.{◌≡◌, ◌≤◌, ℕ, ◌+◌, ◌-◌, ◌%◌, ◌==◌, nat_le, if◌then◌else◌, Bool, true, List, length, drop}
use Rattle.std.specs.Prelude.{slice_index, [], ◌∷◌, map, replicate}
use Rattle.fv_base.specs.Words.{guid_of, bytes_of, IsBytes, field, le_at, le_bytes}
use Rattle.fv_base.specs.declared.guid.Guid.{Guid}
use Rattle.fv_hob.specs.declared.hob.Handoff.{Handoff}
use Rattle.fv_hob.specs.declared.hob.MemoryAllocation.{MemoryAllocation}
use Rattle.fv_hob.specs.declared.hob.Resource.{Resource}
use Rattle.fv_hob.specs.declared.hob.HobKind.{HobKind}
use Rattle.fv_hob.specs.declared.hob.HobKind.TheVariants as kinds
use Rattle.std.specs.List.{concat}

-- a block: its reserved 32-bit field, and its content, whose form depends on its type
pub record HobForm : Type 0 where
  pub reserved : ℕ
  pub kind : HobKind

-- the HobType of a block with this content. EFI_HOB_TYPE_HANDOFF is 0x0001, _MEMORY_ALLOCATION 0x0002,
-- _RESOURCE_DESCRIPTOR 0x0003, _GUID_EXTENSION 0x0004, _FV 0x0005, _CPU 0x0006, _MEMORY_POOL 0x0007, _FV2 0x0009,
-- _UEFI_CAPSULE 0x000B, _UNUSED 0xFFFE, and _END_OF_HOB_LIST 0xFFFF
abbrev pub hob_type : HobKind → ℕ
hob_type (kinds.Handoff fields) = 0x0001
hob_type (kinds.MemoryAllocation fields) = 0x0002
hob_type (kinds.Resource fields) = 0x0003
hob_type (kinds.GuidExtension name payload) = 0x0004
hob_type (kinds.FirmwareVolume base len) = 0x0005
hob_type (kinds.Cpu memory io reserved) = 0x0006
hob_type kinds.MemoryPool = 0x0007
hob_type (kinds.FirmwareVolume2 base len volume file) = 0x0009
hob_type (kinds.Capsule base len) = 0x000b
hob_type (kinds.Unused len) = 0xfffe
hob_type kinds.End = 0xffff
hob_type (kinds.Other code payload) = code

-- the length in bytes of a block with this content, including its header of 8 bytes
abbrev pub hob_len : HobKind → ℕ
hob_len (kinds.Handoff fields) = 56
hob_len (kinds.MemoryAllocation fields) = 48 + length fields.rest
hob_len (kinds.Resource fields) = 48
hob_len (kinds.GuidExtension name payload) = 24 + length payload
hob_len (kinds.FirmwareVolume base len) = 24
hob_len (kinds.Cpu memory io reserved) = 16
hob_len kinds.MemoryPool = 8
hob_len (kinds.FirmwareVolume2 base len volume file) = 56
hob_len (kinds.Capsule base len) = 24
hob_len (kinds.Unused len) = 8 + len
hob_len kinds.End = 8
hob_len (kinds.Other code payload) = 8 + length payload

-- whether the type `code` allows a length of n bytes. The rule for all types is a check of its own (`is_hob_len`)
abbrev pub has_shape : ℕ → ℕ → Bool
has_shape code n =
    if code == 0x0001 then n == 56
    else (if code == 0x0002 then nat_le 48 n
    else (if code == 0x0003 then n == 48
    else (if code == 0x0004 then nat_le 24 n
    else (if code == 0x0005 then n == 24
    else (if code == 0x0006 then n == 16
    else (if code == 0x0007 then n == 8
    else (if code == 0x0009 then n == 56
    else (if code == 0x000b then n == 24
    else (if code == 0xffff then n == 8 else true)))))))))

-- the GUID at the offset `at` of b
abbrev pub guid_in : ℕ → List ℕ → Guid
guid_in at b = guid_of (field at 16 b)

-- the fields of a hand-off information table (PHIT) at their offsets in its block
abbrev pub handoff_in : List ℕ → Handoff
handoff_in b = record {
  version = le_at 8 4 b;
  boot_mode = le_at 12 4 b;
  memory_top = le_at 16 8 b;
  memory_bottom = le_at 24 8 b;
  free_memory_top = le_at 32 8 b;
  free_memory_bottom = le_at 40 8 b;
  end_of_list = le_at 48 8 b;
}

-- the fields of a memory allocation at their offsets
abbrev pub allocation_in : List ℕ → MemoryAllocation
allocation_in b = record {
  name = guid_in 8 b;
  base = le_at 24 8 b;
  length = le_at 32 8 b;
  memory_type = le_at 40 4 b;
  reserved = field 44 4 b;
  rest = drop 48 b;
}

-- the fields of a resource at their offsets
abbrev pub resource_in : List ℕ → Resource
resource_in b = record {
  owner = guid_in 8 b;
  resource_type = le_at 24 4 b;
  attribute = le_at 28 4 b;
  start = le_at 32 8 b;
  length = le_at 40 8 b;
}

-- the content of a block b of this type: the fields after its header, at their offsets. For an unused block it is only
-- the number of bytes after the header. For a type without a kind of its own it includes the type too
abbrev pub kind_by : ℕ → List ℕ → HobKind
kind_by code b =
    if code == 0x0001 then kinds.Handoff (handoff_in b)
    else (if code == 0x0002 then kinds.MemoryAllocation (allocation_in b)
    else (if code == 0x0003 then kinds.Resource (resource_in b)
    else (if code == 0x0004 then kinds.GuidExtension (guid_in 8 b) (drop 24 b)
    else (if code == 0x0005 then kinds.FirmwareVolume (le_at 8 8 b) (le_at 16 8 b)
    else (if code == 0x0006 then kinds.Cpu (slice_index b 8) (slice_index b 9) (field 10 6 b)
    else (if code == 0x0007 then kinds.MemoryPool
    else (if code == 0x0009 then kinds.FirmwareVolume2 (le_at 8 8 b) (le_at 16 8 b) (guid_in 24 b) (guid_in 40 b)
    else (if code == 0x000b then kinds.Capsule (le_at 8 8 b) (le_at 16 8 b)
    else (if code == 0xfffe then kinds.Unused (length b - 8)
    else (if code == 0xffff then kinds.End else kinds.Other code (drop 8 b)))))))))))

-- HobType, the type of the block at the start of b
abbrev pub hob_type_at : List ℕ → ℕ
hob_type_at b = le_at 0 2 b

-- HobLength, the length in bytes of the block at the start of b
abbrev pub hob_len_at : List ℕ → ℕ
hob_len_at b = le_at 2 2 b

-- the block whose bytes are b: its reserved field, which is at offset 4, and its content
abbrev pub hob_in : List ℕ → HobForm
hob_in b = record { reserved = le_at 4 4 b; kind = kind_by (hob_type_at b) b }

-- b is one block: its HobLength is the number of its bytes, which is a multiple of 8, at least 8, and allowed for its
-- type
pub record IsBlock (b : List ℕ) : Type 0 where
  pub bytes : IsBytes b
  pub sized : hob_len_at b ≡ length b
  pub multiple : length b % 8 ≡ 0
  pub least : 8 ≤ length b
  pub shaped : has_shape (hob_type_at b) (length b) ≡ true

-- b is the block h: its bytes have the reserved field and the content of h
pub record IsHob (h : HobForm) (b : List ℕ) : Type 0 where
  pub block : IsBlock b
  pub hob_is : h ≡ hob_in b

-- some bytes are this block; this is true of every `Hob`
abbrev pub IsReadHob : HobForm → Type 0
IsReadHob h = (b : List ℕ) × IsHob h b

-- the bytes of the fields after a block's header, in order; the body of an unused block is zeros
abbrev pub hob_fields : HobKind → List (List ℕ)
hob_fields (kinds.Handoff fields) =
    le_bytes 4 fields.version ∷ le_bytes 4 fields.boot_mode ∷ le_bytes 8 fields.memory_top ∷ le_bytes 8 fields.memory_bottom
    ∷ le_bytes 8 fields.free_memory_top ∷ le_bytes 8 fields.free_memory_bottom ∷ le_bytes 8 fields.end_of_list ∷ []
hob_fields (kinds.MemoryAllocation fields) =
    bytes_of fields.name ∷ le_bytes 8 fields.base ∷ le_bytes 8 fields.length ∷ le_bytes 4 fields.memory_type ∷ fields.reserved
    ∷ fields.rest ∷ []
hob_fields (kinds.Resource fields) =
    bytes_of fields.owner ∷ le_bytes 4 fields.resource_type ∷ le_bytes 4 fields.attribute ∷ le_bytes 8 fields.start
    ∷ le_bytes 8 fields.length ∷ []
hob_fields (kinds.GuidExtension name payload) = bytes_of name ∷ payload ∷ []
hob_fields (kinds.FirmwareVolume base len) = le_bytes 8 base ∷ le_bytes 8 len ∷ []
hob_fields (kinds.Cpu memory io reserved) = (memory ∷ io ∷ []) ∷ reserved ∷ []
hob_fields kinds.MemoryPool = []
hob_fields (kinds.FirmwareVolume2 base len volume file) =
    le_bytes 8 base ∷ le_bytes 8 len ∷ bytes_of volume ∷ bytes_of file ∷ []
hob_fields (kinds.Capsule base len) = le_bytes 8 base ∷ le_bytes 8 len ∷ []
hob_fields (kinds.Unused len) = replicate len 0 ∷ []
hob_fields kinds.End = []
hob_fields (kinds.Other code payload) = payload ∷ []

-- the bytes of a block: its type, its length, its reserved field and its body
abbrev pub hob_spelled : HobForm → List ℕ
hob_spelled h =
    concat (le_bytes 2 (hob_type h.kind) ∷ le_bytes 2 (hob_len h.kind) ∷ le_bytes 4 h.reserved ∷ hob_fields h.kind)

-- the bytes of the blocks, one block after another
abbrev pub list_spelled : List HobForm → List ℕ
list_spelled hs = concat (map hob_spelled hs)
