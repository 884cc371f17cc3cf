-- The packed section at the end of a path in a volume (PI specification, volume 3, sections 3.2.4, 3.2.5.2 and 3.2.5.7).
use Rattle.std.specs.Prelude.{◌≡◌, ⊤, ℕ, List, [], ◌∷◌, Option, Some, None, slice_get, option_and_then}
use Rattle.fv_budget.specs.Words.{packed_frame}
use Rattle.fv_rows.specs.Words.{NodeMeaning, VolumeNode, SectionNode, parts_in, parts_in_body}
use Rattle.fv_section.specs.Words.{frame_form}
use Rattle.fv_tree.specs.Words.{BodyMeaning, Nested, body_of}
use Rattle.fv_command.specs.declared.packed.Packed.{Packed}
use Rattle.fv_command.specs.declared.packed.Packed.TheVariants as packed

-- the parts to which a further number of a path leads: the files of a volume, and the sections of a file or of a group.
-- From a section that holds a volume it leads to the files of this volume
abbrev pub numbered_in_body : BodyMeaning → List NodeMeaning
numbered_in_body (Nested volume) = parts_in (VolumeNode volume)
numbered_in_body body = parts_in_body body

abbrev pub numbered_parts : NodeMeaning → List NodeMeaning
numbered_parts (SectionNode s) = numbered_in_body (body_of s)
numbered_parts node = parts_in node

-- the part at the end of a path that begins in a part. Numbers count from 0
abbrev pub part_at : List ℕ → NodeMeaning → Option NodeMeaning
part_at [] node = Some node
part_at (n ∷ path) node = option_and_then (part_at path) (slice_get (numbered_parts node) n)

-- the result of looking for a packed section, by the part at the end of its path: this section; NotPacked, if the section
-- is not packed; NotFound, if there is no part or the part is not a section
abbrev pub FindsPacked : Option NodeMeaning → Packed → Type 0
FindsPacked (Some (SectionNode s)) (packed.Section frame) = packed_frame s ≡ Some (frame_form frame)
FindsPacked (Some (SectionNode s)) packed.NotPacked = packed_frame s ≡ None
FindsPacked (Some (SectionNode s)) packed.NotFound = ⊥
FindsPacked part packed.NotFound = ⊤
FindsPacked part answer = ⊥
