-- Facts about a header that was read, and about the volume header of the canonical image (PI specification, volume 3,
-- section 3.2.1).
use Rattle.std.specs.Prelude.{◌≡◌, ℕ, List, ◌++◌, length, Option, None, Some}
use Rattle.fv_base.specs.Words.{IsBytes, le_at}
use Rattle.fv_head.specs.Ext.{Extension, IsExt}
use Rattle.fv_head.specs.ExtImage.{ext_spelled}
use Rattle.fv_head.specs.Head.{HeadFields, header_len_of, IsHead, canonical_offset}
use Rattle.fv_head.specs.VolumeAttributes.{polarity_of}
use Rattle.fv_head.specs.declared.extent.Extent.{Extent}

-- there are bytes that form an extended header with this meaning; this is true of every `ExtHeader`
abbrev pub IsReadExt : Extension → Type 0
IsReadExt x = (b : List ℕ) × IsBytes b × IsExt x b

-- if there is an extended header, there are bytes that form an extended header with this meaning
abbrev pub IfRead : Option Extension → Type 0
IfRead None = Unit {0}
IfRead (Some x) = IsReadExt x

-- the bytes may follow the volume header of the canonical image: if there is an extended header, they begin with any 24
-- bytes (for a pad's header) and then the extended header, with any used size
abbrev pub CanonicalRest : Option Extension → List ℕ → Type 0
CanonicalRest None rest = Unit {0}
CanonicalRest (Some x) rest =
    (pad : List ℕ) × (used : ℕ) × (after : List ℕ) × (rest ≡ pad ++ (ext_spelled x used ++ after)) × (length pad ≡ 24)

-- there are bytes that form a volume header with these fields; this is true of every `VolumeHead`
abbrev pub IsReadHead : HeadFields → Type 0
IsReadHead h = (b : List ℕ) × IsHead h b

-- the bytes are the volume header of the canonical image: a header with these fields whose ExtHeaderOffset is
-- `canonical_offset`
pub record IsCanonicalHead (h : HeadFields) (b : List ℕ) : Type 0 where
  pub head : IsHead h b
  pub offset : le_at 52 2 b ≡ canonical_offset h h.ext

-- the extent of a volume with this header, if its first file may begin at `first`
abbrev pub extent_of : HeadFields → ℕ → Extent
extent_of h first = record {
  length = h.length;
  header_len = header_len_of h;
  first = first;
  file_system = h.file_system;
  polarity = polarity_of h.attributes;
}
