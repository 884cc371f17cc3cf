-- The header of a volume, as it is reported to C (PI specification, volume 3, sections 3.2.1.1 and 3.2.1.2).
use Rattle.std.specs.Prelude.{◌≡◌, ℕ, List, Option, None, Some, drop, map, replicate}
use Rattle.std.specs.List.{AllByRecursion}
use Rattle.fv_base.specs.Words.{bytes_of, erased_byte}
use Rattle.fv_head.specs.Words.{Extension, HeadFields, BeginsVolume}
use Rattle.fv_head.specs.declared.extent.Extent.{Extent}
use Rattle.fv_flash.specs.Words.{Found}
use Rattle.fv_c.specs.Reports.{system_number}
use Rattle.fv_c.specs.declared.header.FvHeader.{FvHeader}

-- FvName of the extended header of a volume; 16 zero bytes if the volume has no extended header
abbrev pub volume_name : Option Extension → List ℕ
volume_name None = replicate 16 0
volume_name (Some x) = bytes_of x.name

-- the row for a volume at the offset `at`, with the fields h of its header and the extent e
abbrev pub reported_header : ℕ → HeadFields → Extent → FvHeader
reported_header at h e = record {
  offset = at;
  length = e.length;
  first_file = e.first;
  header_length = e.header_len;
  attributes = h.attributes;
  file_system = system_number e.file_system;
  erased_byte = erased_byte e.polarity;
  name = volume_name h.ext;
  reserved = 0;
}

-- a volume begins at the row's offset in b, and the row describes its header
abbrev pub IsHeaderIn : List ℕ → FvHeader → Type 0
IsHeaderIn b row =
    (h : HeadFields) × (e : Extent) × BeginsVolume h e (drop row.offset b) × (row ≡ reported_header row.offset h e)

-- there is one row for each volume that is found in b, in the order of their offsets, and each row describes the header
-- of its volume
pub record AreHeaders (b : List ℕ) (rows : List FvHeader) : Type 0 where
  pub found : Found b (map (λ (r : FvHeader). r.offset) rows)
  pub headers : AllByRecursion (IsHeaderIn b) rows
