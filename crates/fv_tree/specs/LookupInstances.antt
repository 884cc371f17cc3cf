-- Looking up files and sections: the next file, the n-th file or section of a type, and the result of a look-up (PI
-- specification, volume 3, sections 3.2.3 and 3.2.5).
use Rattle.std.specs.Prelude.{ℕ, ◌+◌, ◌==◌, ◌++◌, zero, suc, List, [], ◌∷◌, Option, Some, None, option_map, slice_get}
use Rattle.std.specs.Prelude.{◌≡◌}
use Rattle.std.specs.List.{filter}
use Rattle.fv_section.specs.Words.{FrameForm, frame_form}
use Rattle.fv_tree.specs.Meaning.{FileMeaning, SectionMeaning, Section, SectionMeanings, NoSections, MoreSections}
use Rattle.fv_tree.specs.Meaning.{BodyMeaning, Leaf, Group, Nested}
use Rattle.fv_tree.specs.MeaningParts.{file_kind_of, section_kind_of}
use Rattle.fv_tree.specs.declared.lookup.Item.TheVariants as items
use Rattle.fv_tree.specs.declared.lookup.Lookup.{Lookup}
use Rattle.fv_tree.specs.declared.lookup.Lookup.TheVariants as answers

-- the number of the file after the file with this number, or of the first file if there is no number
abbrev pub number_after : Option ℕ → ℕ
number_after None = 0
number_after (Some last) = last + 1

-- the file after the file with this number, or the first file if there is no number, together with its own number
abbrev pub file_after : Option ℕ → List FileMeaning → Option (ℕ × FileMeaning)
file_after after fs = option_map (λ f. (number_after after, f)) (slice_get fs (number_after after))

-- item k of a list, counted from 1; there is no item 0
abbrev pub instance_of : {A : Type 0} → ℕ → List A → Option A
instance_of zero xs = None
instance_of (suc k) xs = slice_get xs k

-- file number `instance` of this type, counted from 1 (section 3.2.3, EFI_FV_FILETYPE)
abbrev pub file_of_type : ℕ → ℕ → List FileMeaning → Option FileMeaning
file_of_type kind instance fs = instance_of instance (filter (λ f. file_kind_of f == kind) fs)

-- sections in preorder: each group is followed by the sections in it; the sections of a nested volume are not included
abbrev mutual
  pub preorder : SectionMeanings → List SectionMeaning
  preorder NoSections = []
  preorder (MoreSections s ss) = s ∷ (inside_section s ++ preorder ss)

  pub inside_section : SectionMeaning → List SectionMeaning
  inside_section (Section _ _ body) = inside_body body

  pub inside_body : BodyMeaning → List SectionMeaning
  inside_body (Leaf _) = []
  inside_body (Group ss _) = preorder ss
  inside_body (Nested _) = []

-- the sections of this type (section 3.2.4, EFI_SECTION_TYPE)
abbrev pub of_type : ℕ → List SectionMeaning → List SectionMeaning
of_type kind ss = filter (λ s. section_kind_of s == kind) ss

-- section number `instance` of this type, counted from 1 in preorder
abbrev pub section_of_type : ℕ → ℕ → SectionMeanings → Option SectionMeaning
section_of_type kind instance ss = instance_of instance (of_type kind (preorder ss))

-- the type of a security core, whose data may be sections but are kept as bytes (section 3.2.3,
-- EFI_FV_FILETYPE_SECURITY_CORE)
abbrev pub security_core : ℕ
security_core = 0x03

-- frame number `instance` of this type, counted from 1
abbrev pub frame_of_type : ℕ → ℕ → List FrameForm → Option FrameForm
frame_of_type kind instance fs = instance_of instance (filter (λ f. f.kind == kind) fs)

-- the result is this section, or Absent if there is none
abbrev pub FindsSection : Lookup → Option SectionMeaning → Type 0
FindsSection (answers.Found (items.Section s)) o = o ≡ Some s
FindsSection (answers.Found (items.Frame f)) o = ⊥
FindsSection answers.Absent o = o ≡ None
FindsSection answers.NotSectioned o = ⊥

-- the result is this frame, or Absent if there is none
abbrev pub FindsFrame : Lookup → Option FrameForm → Type 0
FindsFrame (answers.Found (items.Section s)) o = ⊥
FindsFrame (answers.Found (items.Frame f)) o = o ≡ Some (frame_form f)
FindsFrame answers.Absent o = o ≡ None
FindsFrame answers.NotSectioned o = ⊥

-- the result is NotSectioned: the file's data are not sections
abbrev pub IsNotSectioned : Lookup → Type 0
IsNotSectioned l = l ≡ answers.NotSectioned
