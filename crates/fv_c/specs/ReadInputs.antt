-- What a call reads of its input: a volume or a stream of sections, which is the whole input, as it is or without the
-- marks of fixed files at every depth (PI specification, volume 3, sections 3.2, 3.2.3.1, FFS_ATTRIB_FIXED, and 3.2.4).
use Rattle.std.specs.Prelude.{◌≡◌, ℕ, Bool, true, false, List}
use Rattle.fv_marks.specs.Words.{StreamLosesMarks, VolumeLosesMarks}
use Rattle.fv_rows.specs.Words.{TreeRow, rows_of_sections, tree_rows}
use Rattle.fv_tree.specs.Words.{Accepted, AcceptedStream, Meaning, SectionMeaning, sections_from}
use Rattle.fv_c.specs.declared.input.Form.{Form}
use Rattle.fv_c.specs.declared.input.Form.TheVariants as forms

-- these are the bytes that a call reads in this form: its input, or its input without the marks of fixed files at every
-- depth
abbrev pub IsRead : Form → (without_marks : Bool) → (input bytes : List ℕ) → Type 0
IsRead forms.Volume true input bytes = VolumeLosesMarks input bytes
IsRead forms.Volume false input bytes = bytes ≡ input
IsRead forms.Stream true input bytes = StreamLosesMarks input bytes
IsRead forms.Stream false input bytes = bytes ≡ input

-- the bytes that a call reads have the property P
abbrev pub Reads : Form → (without_marks : Bool) → (input : List ℕ) → (List ℕ → Type 0) → Type 0
Reads form without_marks input P = (bytes : List ℕ) × IsRead form without_marks input bytes × P bytes

-- the bytes are a volume, or a stream of sections, and these are the rows of its parts, in preorder
abbrev pub HasParts : Form → List ℕ → List TreeRow → Type 0
HasParts forms.Volume bytes rows = (m : Meaning) × Accepted bytes m × (rows ≡ tree_rows m)
HasParts forms.Stream bytes rows =
    (sections : List SectionMeaning) × (tail : ℕ) × AcceptedStream sections tail bytes
    × (rows ≡ rows_of_sections 0 0 0 (sections_from sections))
