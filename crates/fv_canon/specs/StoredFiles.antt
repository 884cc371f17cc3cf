-- The bytes of a volume in its canonical image, given the data of its files (PI specification, volume 3, sections 3.2.1
-- to 3.2.3).
use Rattle.std.specs.Prelude.{ℕ, ◌+◌, ◌-◌, ◌==◌, zero, suc, nat_le, if◌then◌else◌, List, [], ◌∷◌, ◌++◌, length}
use Rattle.std.specs.Prelude.{replicate, Option, None, Some}
use Rattle.fv_base.specs.Words.{erased_byte, up_to_8}
use Rattle.fv_base.specs.declared.flash.Polarity.{Polarity}
use Rattle.fv_base.specs.declared.guid.Guid.{Guid}
use Rattle.fv_file.specs.Words.{attributes_by, file_header_len, needs_large, file_sum_for, file_head_of, pad_head_of}
use Rattle.fv_head.specs.Words.{Extension, HeadFields, header_len_of as head_len_of, canonical_head, first_edge}
use Rattle.fv_head.specs.Words.{ext_len, ext_spelled, polarity_of}
use Rattle.fv_canon.specs.PlacedBytes.{PlacedBytes}

-- a file of the canonical image; `payload` is its data as they are written
pub record StoredFile : Type 0 where
  pub name : Guid
  pub kind : ℕ
  pub attributes : ℕ
  pub payload : List ℕ

-- the length of the header of a file with this much data. The header is large if the file would have more than 0xFFFFFF
-- bytes with a short header
abbrev pub head_len_for : ℕ → ℕ
head_len_for data_len = file_header_len (needs_large data_len)

-- the size of a file, including its header
abbrev pub size_for : ℕ → ℕ
size_for data_len = head_len_for data_len + data_len

abbrev pub stored_len : StoredFile → ℕ
stored_len f = size_for (length f.payload)

-- the bytes of a file: its header, and then its data
unfoldable pub stored_bytes : Polarity → StoredFile → List ℕ
stored_bytes polarity f =
    file_head_of f.name f.kind (attributes_by f.attributes) (length f.payload)
    (file_sum_for f.attributes f.payload) polarity ++ f.payload

-- the bytes of a pad of this size: its header, and then erased bytes
unfoldable pub pad_bytes : Polarity → ℕ → List ℕ
pad_bytes polarity size = pad_head_of size polarity ++ replicate (size - 24) (erased_byte polarity)

-- 0xFFFF00, the size in bytes of each pad of a gap except the last pad
abbrev pub long_pad : ℕ
long_pad = 0xffff00

-- the pads of a gap: one pad if it fits, and otherwise a pad of `long_pad` bytes and then the pads of the rest. There
-- are at most n pads before the last
abbrev pub pads : Polarity → (n gap : ℕ) → List ℕ
pads polarity zero gap = pad_bytes polarity gap
pads polarity (suc n) gap =
    if nat_le gap 0xfffff8 then pad_bytes polarity gap
    else (pad_bytes polarity long_pad ++ pads polarity n (gap - long_pad))

-- the bytes of a gap between an edge and the next file: none if the gap is empty, and otherwise its pads. A gap has
-- fewer pads than bytes, so its number of bytes is a bound on the pads
unfoldable pub gap_bytes : Polarity → ℕ → List ℕ
gap_bytes polarity gap = if gap == 0 then [] else pads polarity gap gap

-- the pad with the extended header, directly after the volume header, if there is an extended header. `used` is the
-- used size
unfoldable pub ext_pad : Polarity → Option Extension → ℕ → List ℕ
ext_pad polarity None used = []
ext_pad polarity (Some x) used = pad_head_of (24 + ext_len x) polarity ++ ext_spelled x used

-- the offset at which the last of these files ends, or `end` if there is no file. A caller passes the first edge of the
-- volume as `end`. There are as many starts as files (`AreStarts`), so the second case does not occur
abbrev pub used_size : ℕ → List StoredFile → List ℕ → ℕ
used_size end [] starts = end
used_size end (f ∷ fs) [] = end
used_size end (f ∷ fs) (s ∷ ss) = used_size (s + stored_len f) fs ss

-- the spans of the files from the edge e on: for each file, the pads of the preceding gap, and the file. If no file is
-- left, there are no spans. There are as many starts as files (`AreStarts`), so the second case does not occur
abbrev pub placed_files : Polarity → ℕ → List StoredFile → List ℕ → List PlacedBytes
placed_files polarity e [] starts = []
placed_files polarity e (f ∷ fs) [] = []
placed_files polarity e (f ∷ fs) (s ∷ ss) =
    record { at = e; bytes = gap_bytes polarity (s - e) } ∷ record { at = s; bytes = stored_bytes polarity f }
    ∷ placed_files polarity (up_to_8 (s + stored_len f)) fs ss

-- the spans of a volume: the volume header, the pad with the extended header, the pads of the gaps, and the files
abbrev pub placed_in_volume : HeadFields → List StoredFile → List ℕ → List PlacedBytes
placed_in_volume h files starts =
    record { at = 0; bytes = canonical_head h }
    ∷ record {
      at = head_len_of h;
      bytes = ext_pad (polarity_of h.attributes) h.ext (used_size (first_edge h h.ext) files starts);
    }
    ∷ placed_files (polarity_of h.attributes) (first_edge h h.ext) files starts
