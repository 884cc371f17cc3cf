-- The result of the checks of a header, defined in the way in which the code finds it.
use Rattle.std.specs.Prelude.{◌≡◌, ◌⊎◌, ◌≤◌, ℕ, ◌+◌, ◌==◌, if◌then◌else◌, List, length, Option, None, Some}
use Rattle.std.specs.Prelude.{Result, Ok, Err}
use Rattle.fv_base.specs.inner.Verdicts.{first_fault}
use Rattle.fv_base.specs.Words.{outer_fault, le_at, up_to_8}
use Rattle.fv_base.specs.declared.fault.Fault.{Fault}
use Rattle.fv_base.specs.declared.flash.FileSystem.{FileSystem}
use Rattle.fv_base.specs.declared.fault.FaultKind.TheVariants as kinds
use Rattle.fv_head.specs.declared.extent.Extent.{Extent}
use Rattle.fv_head.specs.HeadChecks.{file_system_at, header_len_at, volume_len_at, ext_offset_at, ext_size_at}
use Rattle.fv_head.specs.HeadChecks.{head_checks}
use Rattle.fv_head.specs.VolumeAttributes.{polarity_of}

-- there is no extended header, or its first 20 bytes lie within the bytes
abbrev pub ExtHeaderWithin : List ℕ → Type 0
ExtHeaderWithin b = (ext_offset_at b ≡ 0) ⊎ (ext_offset_at b + 20 ≤ length b)

-- the offset at which the first file may begin
abbrev pub first_at : List ℕ → ℕ
first_at b = if ext_offset_at b == 0 then header_len_at b else up_to_8 (ext_offset_at b + ext_size_at b)

-- the extent of a volume with this file system, as its header gives it
abbrev pub extent_at : FileSystem → List ℕ → Extent
extent_at fs b = record {
  length = volume_len_at b;
  header_len = header_len_at b;
  first = first_at b;
  file_system = fs;
  polarity = polarity_of (le_at 44 4 b);
}

-- the extent if there is a file system, and otherwise the fault f
abbrev pub extent_or : Option FileSystem → Fault → List ℕ → Result Extent Fault
extent_or None f b = Err f
extent_or (Some fs) f b = Ok (extent_at fs b)

-- the fault if there is one, and otherwise the extent
abbrev pub extent_verdict : Option Fault → List ℕ → Result Extent Fault
extent_verdict (Some f) b = Err f
extent_verdict None b = extent_or (file_system_at b) (outer_fault kinds.FileSystem 16) b

abbrev pub head_verdict : List ℕ → Result Extent Fault
head_verdict b = extent_verdict (first_fault (head_checks b)) b
