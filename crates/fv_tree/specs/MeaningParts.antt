-- Further parts of a meaning, as the calls on views return them (PI specification, volume 3, sections 3.2.3 and 3.2.4).
use Rattle.std.specs.Prelude.{ℕ, List, [], ◌∷◌, Bool, Option, Some, None}
use Rattle.fv_tree.specs.Meaning.{FileMeanings, NoFiles, MoreFiles, FileMeaning, File, ContentMeaning, Plain}
use Rattle.fv_tree.specs.Meaning.{Sectioned, SectionMeanings, NoSections, MoreSections, SectionMeaning, Section}
use Rattle.fv_tree.specs.Meaning.{BodyMeaning, Leaf, Group, Nested}

-- the files and the sections of a list, as parts of a meaning
abbrev pub files_from : List FileMeaning → FileMeanings
files_from [] = NoFiles
files_from (f ∷ fs) = MoreFiles f (files_from fs)

abbrev pub sections_from : List SectionMeaning → SectionMeanings
sections_from [] = NoSections
sections_from (s ∷ ss) = MoreSections s (sections_from ss)

-- the type of a file; and the bytes of a content that is plain
abbrev pub file_kind_of : FileMeaning → ℕ
file_kind_of (File name kind attributes content) = kind

abbrev pub plain_of : ContentMeaning → Option (List ℕ)
plain_of (Plain b) = Some b
plain_of (Sectioned _ _) = None

-- the parts of a section: its type, whether its header is extended, its body
abbrev pub section_kind_of : SectionMeaning → ℕ
section_kind_of (Section kind extended body) = kind

abbrev pub section_is_extended : SectionMeaning → Bool
section_is_extended (Section kind extended body) = extended

abbrev pub body_of : SectionMeaning → BodyMeaning
body_of (Section kind extended body) = body

-- the bytes of a body that is a leaf
abbrev pub leaf_of : BodyMeaning → Option (List ℕ)
leaf_of (Leaf b) = Some b
leaf_of (Group _ _) = None
leaf_of (Nested _) = None

-- the sections in the data of a file, and the sections in a body; sections in groups among them are not included
abbrev pub sections_in_data : ContentMeaning → SectionMeanings
sections_in_data (Plain b) = NoSections
sections_in_data (Sectioned sections tail) = sections

abbrev pub sections_in : BodyMeaning → SectionMeanings
sections_in (Leaf b) = NoSections
sections_in (Group sections tail) = sections
sections_in (Nested volume) = NoSections
