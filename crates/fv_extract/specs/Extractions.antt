-- The parts that are extracted from a volume: the data of a file, or the body of one of its sections.
use Rattle.std.specs.Prelude.{◌≡◌, ⊤, ℕ, List, Option, Some, None}
use Rattle.fv_base.specs.declared.fault.Fault.{Fault}
use Rattle.fv_canon.specs.Words.{IsData, IsBodyImage, FirstUnplaced}
use Rattle.fv_tree.specs.Words.{volumes_in_body, volumes_in_content, section_of_type, frame_of_type, security_core}
use Rattle.fv_tree.specs.Words.{FileMeaning, SectionMeaning, SectionMeanings, Plain, Sectioned, content_of, body_of}
use Rattle.fv_tree.specs.Words.{file_kind_of}
use Rattle.fv_section.specs.Words.{FrameForm, Splits}
use Rattle.fv_extract.specs.declared.extracting.Extraction.{Extraction}
use Rattle.fv_extract.specs.declared.extracting.Extraction.TheVariants.{Made, Stored, NotFound, NotSectioned}

-- the extracted bytes are the body of this section, as it is in the canonical image; NotFound, if there is no section
abbrev pub IsSectionPart : Option SectionMeaning → Extraction → Type 0
IsSectionPart (Some s) (Made bytes) = IsBodyImage (body_of s) bytes
IsSectionPart None NotFound = ⊤
IsSectionPart _ _ = ⊥

-- the extracted bytes are the body of this frame, as it is stored; NotFound, if there is no frame
abbrev pub IsFramePart : Option FrameForm → Extraction → Type 0
IsFramePart (Some f) (Stored bytes) = bytes.now ≡ f.body
IsFramePart None NotFound = ⊤
IsFramePart _ _ = ⊥

-- the result of looking for the section of this type and instance. Sections are counted in preorder through groups. In
-- a security core whose data are a stream, its frames are counted instead. For every other file whose data are plain
-- bytes, the result is NotSectioned (PI specification, volume 3, section 3.2.3)
pub record IsSectionOf (f : FileMeaning) (kind instance : ℕ) (answer : Extraction) : Type 0 where
  pub sections : (ss : SectionMeanings) (t : ℕ) → content_of f ≡ Sectioned ss t
      → IsSectionPart (section_of_type kind instance ss) answer
  pub core : (b : List ℕ) (fs : List FrameForm) (t : ℕ) → content_of f ≡ Plain b → file_kind_of f ≡ security_core
      → Splits fs t b
      → IsFramePart (frame_of_type kind instance fs) answer
  pub plain : (b : List ℕ) → content_of f ≡ Plain b
      → (file_kind_of f ≡ security_core → (fs : List FrameForm) (t : ℕ) → Splits fs t b → ⊥) → answer ≡ NotSectioned

-- the result of extracting a part of the file with the part's name, or NotFound if no file has the name. The part is the
-- data of the file, as they are in the canonical image; or, if a type is given, a section of the file
abbrev pub IsPart : Option FileMeaning → (section : Option ℕ) (instance : ℕ) → Extraction → Type 0
IsPart None section instance answer = answer ≡ NotFound
IsPart (Some f) None instance (Made bytes) = IsData (content_of f) bytes
IsPart (Some f) None instance _ = ⊥
IsPart (Some f) (Some kind) instance answer = IsSectionOf f kind instance answer

-- why the data of the file, or the body of its section, cannot be extracted: the fault of the first volume in these
-- bytes whose own files cannot be placed, with the depth of that volume in the part
abbrev pub StopsPart : Option FileMeaning → (section : Option ℕ) (instance : ℕ) → Fault → Type 0
StopsPart None section instance fault = ⊥
StopsPart (Some f) None instance fault = FirstUnplaced (volumes_in_content (content_of f)) 0 fault
StopsPart (Some f) (Some kind) instance fault =
    (ss : SectionMeanings) × (t : ℕ) × (s : SectionMeaning) × (content_of f ≡ Sectioned ss t)
    × (section_of_type kind instance ss ≡ Some s)
    × FirstUnplaced (volumes_in_body (body_of s)) 0 fault

-- the bytes of the part are laid out: the data of the file, or the body of its section. (A frame is not laid out, because
-- its body is extracted as it is stored)
abbrev pub IsLaidOut : Option FileMeaning → (section : Option ℕ) (instance : ℕ) → Type 0
IsLaidOut None section instance = ⊥
IsLaidOut (Some f) None instance = ⊤
IsLaidOut (Some f) (Some kind) instance =
    (ss : SectionMeanings) × (t : ℕ) × (s : SectionMeaning) × (content_of f ≡ Sectioned ss t)
    × (section_of_type kind instance ss ≡ Some s)
