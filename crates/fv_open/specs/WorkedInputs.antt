-- The inputs and the results of the worked sections, which `src/worked_sections.rt` states.
use Rattle.std.specs.Prelude.{ℕ, ◌+◌, List, [], ◌∷◌, ◌++◌, length, replicate, Result, Ok, Err}
use Rattle.fv_open.specs.OpenFaults.{open_fault}
use Rattle.fv_open.specs.declared.fault.OpenFault.{OpenFault}
use Rattle.fv_open.specs.declared.fault.OpenFaultKind.{OpenFaultKind}
use Rattle.fv_open.specs.declared.way.Way.{Way}

-- a section of this type with a short header, whose size is below 256
abbrev pub short_section : ℕ → List ℕ → List ℕ
short_section kind body = (4 + length body) ∷ 0 ∷ 0 ∷ kind ∷ body

-- a compression section of this CompressionType, whose UncompressedLength is n
abbrev pub compression_section : ℕ → ℕ → List ℕ → List ℕ
compression_section way n bytes = short_section 1 (n ∷ 0 ∷ 0 ∷ 0 ∷ way ∷ bytes)

-- a GUID-defined section with this DataOffset and these Attributes, both below 256
abbrev pub guided_section : List ℕ → ℕ → ℕ → List ℕ → List ℕ
guided_section guid offset attributes bytes = short_section 2 (guid ++ (offset ∷ 0 ∷ attributes ∷ 0 ∷ bytes))

-- a GUID that is not known
abbrev pub other_guid : List ℕ
other_guid = replicate 16 7

-- three bytes
abbrev pub three_bytes : List ℕ
three_bytes = 1 ∷ 2 ∷ 3 ∷ []

-- an LZMA stream of the byte `a`
abbrev pub lzma_a : List ℕ
lzma_a =
    0 ∷ 0 ∷ 16 ∷ 0 ∷ 0 ∷ 1 ∷ 0 ∷ 0 ∷ 0 ∷ 0 ∷ 0 ∷ 0 ∷ 0 ∷ 0 ∷ 48 ∷ 195 ∷ 235 ∷ 255 ∷ 255 ∷ 255 ∷ 225 ∷ 0 ∷ 0 ∷ 0 ∷ []

-- data that give the empty section, with the count of 4 bits of the UEFI specification, and with Tiano's of 5 bits. By
-- the other count, each gives four other bytes, which are not sections
abbrev pub empty_section : List ℕ
empty_section = 4 ∷ 0 ∷ 0 ∷ 25 ∷ []

abbrev pub packed_4 : List ℕ
packed_4 = 11 ∷ 0 ∷ 0 ∷ 0 ∷ 4 ∷ 0 ∷ 0 ∷ 0 ∷ 0 ∷ 4 ∷ 40 ∷ 72 ∷ 72 ∷ 53 ∷ 1 ∷ 160 ∷ 12 ∷ 2 ∷ 48 ∷ []

abbrev pub packed_5 : List ℕ
packed_5 = 11 ∷ 0 ∷ 0 ∷ 0 ∷ 4 ∷ 0 ∷ 0 ∷ 0 ∷ 0 ∷ 4 ∷ 40 ∷ 72 ∷ 72 ∷ 53 ∷ 1 ∷ 160 ∷ 12 ∷ 0 ∷ 140 ∷ []

-- contents, and the way that gave them
abbrev pub gives : Way → List ℕ → Result (Way × List ℕ) OpenFault
gives way contents = Ok (way, contents)

-- a fault of this kind at this offset
abbrev pub rejects : OpenFaultKind → ℕ → Result (Way × List ℕ) OpenFault
rejects kind offset = Err (open_fault kind offset)
