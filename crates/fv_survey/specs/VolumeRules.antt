-- How a volume is read whose header may be damaged, by rules 4 to 6 of the tolerant reading (PI specification, volume
-- 3, sections 3.2.1.1 and 3.2.1.2).
use Rattle.std.specs.Prelude.{ℕ, zero, suc, ◌+◌, ◌-◌, ◌%◌, ◌==◌, nat_le, nat_lt, min, Bool, false, ◌&&◌, not}
use Rattle.std.specs.Prelude.{bit_or, if◌then◌else◌, List, [], ◌∷◌, length, drop, slice_index}
use Rattle.std.specs.List.{list_all}
use Rattle.fv_base.specs.Words.{header_limit, field, le_at, up_to_8, guid_of}
use Rattle.fv_base.specs.declared.fault.FaultKind.{FaultKind}
use Rattle.fv_base.specs.declared.fault.FaultKind.TheVariants as kinds
use Rattle.fv_base.specs.declared.flash.Polarity.{Polarity}
use Rattle.fv_head.specs.Words.{polarity_of, pairs_of, has_signature, header_len_at, volume_len_at, is_header_len, has_sum}
use Rattle.fv_head.specs.Words.{is_zero_pair, has_block_map, is_volume_len, ext_offset_at, ext_size_at, has_ext, head_checks}
use Rattle.fv_survey.specs.FindingSets.{bit_of_kind}
use Rattle.fv_survey.specs.Starts.{has_header_len}
use Rattle.fv_survey.specs.Systems.{files_by, is_allowed}
use Rattle.fv_survey.specs.declared.findings.Findings.{Findings}
use Rattle.fv_survey.specs.declared.parts.Parts.{Parts}

-- ---- where the header ends

-- the offset at which the first pair of zeros ends, if these are the pairs of a block map from the offset `at` on. If
-- there is no pair of zeros, it is 56, the offset of the block map
abbrev pub map_end : ℕ → List (ℕ × ℕ) → ℕ
map_end at [] = 56
map_end at (p ∷ ps) = if is_zero_pair p then at + 8 else map_end (at + 8) ps

-- the end of the header by its block map, of which at most the pairs in the first `header_limit` bytes count
abbrev pub mapped_end : List ℕ → ℕ
mapped_end b = map_end 56 (pairs_of (field 56 (header_limit - 56) b))

-- the header ends at HeaderLength, if this is possible, and otherwise by its block map
abbrev pub header_end : List ℕ → ℕ
header_end b = if has_header_len b then header_len_at b else mapped_end b

-- ---- where the volume ends

-- the strict reader accepts the header: all its checks hold
unfoldable pub is_strict : List ℕ → Bool
is_strict b = list_all (λ c. c.holds) (head_checks b)

-- the volume has FvLength bytes, if it has at least its header and lies within the bytes, and otherwise all bytes
abbrev pub extent_len : List ℕ → ℕ
extent_len b = if nat_le (header_end b) (volume_len_at b) && nat_le (volume_len_at b) (length b) then volume_len_at b else length b

-- the bytes begin with a volume whose header is strict, and which ends after the first n bytes
abbrev pub ends_after : ℕ → List ℕ → Bool
ends_after n b = is_strict b && nat_lt n (volume_len_at b)

-- the number of bytes before the first volume among the first n bytes whose header is strict and which ends after them,
-- or n if there is no such volume
abbrev pub cut_before : ℕ → List ℕ → ℕ
cut_before zero b = 0
cut_before (suc n) b = if ends_after (suc n) b then 0 else suc (cut_before n (drop 1 b))

-- the end of the volume that the bytes begin with: a volume whose header is not strict ends before a volume in it whose
-- header is strict and which ends after it
abbrev pub volume_end : List ℕ → ℕ
volume_end b = if is_strict b then extent_len b else 56 + cut_before (extent_len b - 56) (drop 56 b)

-- ---- what lies before the body

-- the polarity by the attributes
abbrev pub polarity_by : List ℕ → Polarity
polarity_by b = polarity_of (le_at 44 4 b)

-- there is an extended header: ExtHeaderOffset is not 0, and the extended header lies after the header and within the
-- volume
abbrev pub has_ext_part : List ℕ → Bool
has_ext_part b = not (ext_offset_at b == 0) && has_ext (header_end b) (extent_len b) b

-- where the extended header begins and ends. If there is none, both are the end of the header
abbrev pub ext_by : List ℕ → ℕ × ℕ
ext_by b = if has_ext_part b then (ext_offset_at b, ext_offset_at b + ext_size_at b) else (header_end b, header_end b)

-- the body begins at the first multiple of 8 after the extended header, or at the end of the bytes
abbrev pub body_start : List ℕ → ℕ
body_start b = min (up_to_8 (ext_by b).1) (length b)

-- ---- which rules the header breaks

-- the first n bytes are a header whose words sum to 0
abbrev pub has_zero_sum : ℕ → List ℕ → Bool
has_zero_sum n b = (n % 2 == 0) && has_sum n b

-- in a header of n bytes, the first pair of zeros is at the end, and the blocks together have FvLength bytes
abbrev pub has_blocks : ℕ → List ℕ → Bool
has_blocks n b = (n % 8 == 0) && nat_le 64 n && has_block_map n b

-- HeaderLength is a length that a header may have, and lies within the bytes
abbrev pub has_strict_len : List ℕ → Bool
has_strict_len b = is_header_len (header_len_at b) && nat_le (header_len_at b) (length b)

-- all HeaderLength bytes and all FvLength bytes are there
abbrev pub is_whole : List ℕ → Bool
is_whole b = nat_le (header_len_at b) (length b) && nat_le (volume_len_at b) (length b)

-- the header breaks the rule whose fault has this kind. Where the header ends, `header_end` says
abbrev pub breaks : FaultKind → List ℕ → Bool
breaks kinds.Truncated b = not (is_whole b)
breaks kinds.Signature b = not (has_signature b)
breaks kinds.FileSystem b = not (is_allowed (field 16 16 b))
breaks kinds.Revision b = not (slice_index b 55 == 2)
breaks kinds.HeaderLength b = not (has_strict_len b)
breaks kinds.HeaderSum b = not (has_zero_sum (header_end b) b)
breaks kinds.BlockMap b = not (has_blocks (header_end b) b)
breaks kinds.Length b = not (is_volume_len (header_end b) (volume_len_at b))
breaks kinds.ExtHeader b = not (has_ext (header_end b) (extent_len b) b)
breaks _ b = false

-- the kinds of the rules of a header
abbrev pub header_kinds : List FaultKind
header_kinds =
    kinds.Truncated ∷ kinds.Signature ∷ kinds.FileSystem ∷ kinds.Revision ∷ kinds.HeaderLength ∷ kinds.HeaderSum
    ∷ kinds.BlockMap ∷ kinds.Length ∷ kinds.ExtHeader ∷ []

-- the number that keeps the set `bits`, with each of these kinds whose rule the header breaks
abbrev pub with_breaks : ℕ → List ℕ → List FaultKind → ℕ
with_breaks bits b [] = bits
with_breaks bits b (k ∷ ks) = with_breaks (if breaks k b then bit_or bits (bit_of_kind k) else bits) b ks

-- the findings of the header: the kinds of all rules that it breaks
unfoldable pub header_findings : List ℕ → Findings
header_findings b = record { bits = with_breaks 0 b header_kinds }

-- ---- all parts

-- the parts of the volume that is these bytes, of which there are at least 56
abbrev pub parts_by : List ℕ → Parts
parts_by b = record {
  header = header_end b;
  ext = (ext_by b).0;
  ext_end = (ext_by b).1;
  first = body_start b;
  files = files_by (field 16 16 b);
  polarity = polarity_by b;
  is_cut = nat_lt (length b) (volume_len_at b);
  findings = header_findings b;
  name = guid_of (field 16 16 b);
}
