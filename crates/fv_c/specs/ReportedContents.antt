-- The reports on a section that is opened (PI specification, volume 3, sections 3.2.5.2, EFI_COMPRESSION_SECTION, and
-- 3.2.5.7, EFI_GUID_DEFINED_SECTION).
use Rattle.std.specs.Prelude.{ℕ, ◌+◌, List, length, Option, Some, None}
use Rattle.fv_open.specs.Words.{open_fault_number}
use Rattle.fv_open.specs.declared.encapsulation.Encapsulation.{Encapsulation}
use Rattle.fv_open.specs.declared.fault.OpenFault.{OpenFault}
use Rattle.fv_open.specs.declared.fault.OpenFaultKind.{OpenFaultKind}
use Rattle.fv_open.specs.declared.fault.OpenFaultKind.TheVariants as kinds
use Rattle.fv_open.specs.declared.way.Way.{Way}
use Rattle.fv_open.specs.declared.way.Way.TheVariants as ways
use Rattle.fv_c.specs.declared.contents.FvContents.{FvContents}
use Rattle.fv_c.specs.declared.contents.FvWay.{FvWay}
use Rattle.fv_c.specs.declared.reports.FvFault.{FvFault}

-- the number of a way to open a section
abbrev pub way_number : Way → ℕ
way_number ways.Stored = 1
way_number ways.Standard = 2
way_number ways.Uefi = 3
way_number ways.Tiano = 4
way_number ways.Customized = 5
way_number ways.Lzma = 6
way_number ways.LzmaX86 = 7
way_number ways.Crc32 = 8
way_number ways.Signed = 9
way_number ways.Plain = 10

-- the length that a header promises, or 2^64 - 1 if it promises none
abbrev pub promised_number : Option ℕ → ℕ
promised_number (Some n) = n
promised_number None = 0xffffffffffffffff

-- the report on what the header of a section says
abbrev pub reported_way : Encapsulation → FvWay
reported_way e =
    record { promised = promised_number e.promised; data_offset = e.data_offset; way = way_number e.way; reserved = 0 }

-- the report on contents, and the way that gave them
abbrev pub reported_contents : Way → List ℕ → FvContents
reported_contents way contents = record { length = length contents; way = way_number way; reserved = 0 }

-- the result of a call that stops at a fault of a section that is opened: 24 if memory ran out, and otherwise 1024 plus
-- the number of the fault's kind
abbrev pub open_result : OpenFaultKind → ℕ
open_result kinds.OutOfMemory = 24
open_result kind = 1024 + open_fault_number kind

-- the report of a fault of a section that is opened
abbrev pub reported_open_fault : OpenFault → FvFault
reported_open_fault f = record { offset = f.offset; result = open_result f.kind; depth = 0; input = 0; reserved = 0 }
