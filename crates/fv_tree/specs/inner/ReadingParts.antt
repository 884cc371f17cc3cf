-- Definitions for the readers of files: a file without its data; the header fields that a stored file does not keep,
-- because they follow from the fields that it keeps; the result of a reader of a part of a volume; and what a reader of
-- files requires of each file.
use Rattle.std.specs.Prelude.{◌≡◌, ℕ, ◌+◌, ◌<◌, ◌^◌, List, [], length, ◌≢◌}
use Rattle.std.specs.Prelude.{◌≤◌, Result, MatchResult}
use Rattle.fv_file.specs.Words.{CellForm, Valid, attribute_bits, file_sum_for}
use Rattle.fv_file.specs.declared.head.FileHead.{FileHead}
use Rattle.fv_tree.specs.LocatedFiles.{header_len_by}
use Rattle.std.specs.List.{AllByRecursion}
use Rattle.fv_base.specs.Words.{out_of_memory, volume_limit}
use Rattle.fv_base.specs.declared.fault.Fault.{Fault}
use Rattle.fv_tree.specs.ReadParts.{IsStoredFile}
use Rattle.fv_tree.specs.VolumeFiles.{FileForm}
use Rattle.fv_tree.specs.FirstFault.{data_place}

-- the fields of a header that a stored file does not keep follow from the fields that it keeps
pub record FollowsFrom (head : FileHead) (payload : List ℕ) : Type 0 where
  pub size : head.size ≡ header_len_by (attribute_bits head.attributes) + length payload
  pub header_len : head.header_len ≡ header_len_by (attribute_bits head.attributes)
  pub file_sum : head.file_sum ≡ file_sum_for (attribute_bits head.attributes) payload

-- the file without its data and its file checksum
abbrev pub bare : FileForm → FileForm
bare f = record f { head = record f.head { file_sum = 0 }; payload = [] }

-- if the cell is a valid file, its header follows from the fields that are kept of it, and its offset and the length of
-- its data fit in 32 bits
abbrev pub IsSmallCell : CellForm → Type 0
IsSmallCell (Valid at head payload) = (at < 2 ^ 32) × (length payload < 2 ^ 32) × FollowsFrom head payload
IsSmallCell _ = Unit {0}

-- the result is a value of which P is true, or a fault. F is true of the fault unless the fault is `out_of_memory`
abbrev pub ReadsOrFails : {T : Type 0} → (T → Type 0) → (Fault → Type 0) → Result T Fault → Type 0
ReadsOrFails P F result = MatchResult result P (λ f. f ≢ out_of_memory → F f)

-- the file is a valid file of some volume (`IsStoredFile`), and its data have at most `volume_limit` bytes. If the volume
-- begins at the offset `base`, the data end at an offset below 2 ^ 63
abbrev pub IsReadyFile : ℕ → FileForm → Type 0
IsReadyFile base f =
    IsStoredFile f × (base + data_place f + length f.payload < 2 ^ 63) × (length f.payload ≤ volume_limit)

-- each of the files is a valid file in some bytes, as `IsReadyFile` states
abbrev pub AllStored : ℕ → List FileForm → Type 0
AllStored base fs = AllByRecursion (IsReadyFile base) fs
