-- Packed sections (PI specification, volume 3, sections 3.2.4, 3.2.5.2 and 3.2.5.7).
use Rattle.std.specs.Prelude.{ℕ, ◌==◌, ◌||◌, Bool, if◌then◌else◌, Option, Some, None}
use Rattle.fv_section.specs.Words.{FrameForm}
use Rattle.fv_tree.specs.Words.{SectionMeaning, Section, Leaf}

-- whether a section of this type is packed: it is a compression section or a GUID-defined section
abbrev pub is_packed : ℕ → Bool
is_packed kind = (kind == 0x01) || (kind == 0x02)

-- a section that is packed, as a frame at the offset 0. Its body is plain bytes
abbrev pub packed_frame : SectionMeaning → Option FrameForm
packed_frame (Section kind extended (Leaf b)) =
    if is_packed kind then Some (record { offset = 0; kind = kind; extended = extended; body = b }) else None
packed_frame (Section kind extended body) = None
