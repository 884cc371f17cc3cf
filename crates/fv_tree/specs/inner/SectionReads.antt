-- The promises of the readers of a section, of a stream and of the data of a file: the meaning that was read, and the
-- volumes that were added to a list.
use Rattle.std.specs.Prelude.{◌≡◌, ℕ, true, List, [], ◌++◌}
use Rattle.fv_base.specs.Words.{IsBytes}
use Rattle.fv_section.specs.Words.{FrameForm}
use Rattle.fv_tree.specs.Denotes.{MeansContent, MeansSection, Stream, holds_sections}
use Rattle.fv_tree.specs.Meaning.{Meaning, SectionMeaning}
use Rattle.fv_tree.specs.WalkedSections.{Step, content_by, each_by, frames_of, section_by, tail_of}

-- `step` makes the section s from the frame f and the volumes `added`, and takes exactly these volumes, whatever
-- volumes follow
abbrev pub Yields : Step → FrameForm → List Meaning → SectionMeaning → Type 0
Yields step f added s = (later : List Meaning) → step f (added ++ later) ≡ (s, later)

-- `step` makes the sections ss from the frames fs and the volumes `added`, and takes exactly these volumes, whatever
-- volumes follow
abbrev pub EachYields : Step → List FrameForm → List Meaning → List SectionMeaning → Type 0
EachYields step fs added ss = (later : List Meaning) → each_by step fs (added ++ later) ≡ (ss, later)

-- the section in the frame f was read: it has a meaning, in which groups and opened volumes nest at most n deep, and
-- the volumes in it were added to the list `old`, which became `new`
pub record SectionRead (n : ℕ) (f : FrameForm) (old new : List Meaning) : Type 0 where
  pub section : SectionMeaning
  pub means : MeansSection n f section
  pub added : List Meaning
  pub joined : new ≡ old ++ added
  pub yields : Yields (section_by n) f added section

-- the stream b was read: its sections have meanings, in which groups and opened volumes nest at most n deep, and the
-- volumes in these sections were added to the list `old`, which became `new`
pub record StreamRead (n : ℕ) (b : List ℕ) (old new : List Meaning) : Type 0 where
  pub small : IsBytes b
  pub sections : List SectionMeaning
  pub means : Stream n sections (tail_of b) b
  pub added : List Meaning
  pub joined : new ≡ old ++ added
  pub yields : EachYields (section_by n) (frames_of b) added sections

-- the data b of a file of this type were read: vs are the volumes in them, and the content that `content_by` makes from
-- b and vs is their meaning
pub record ContentRead (n kind : ℕ) (b : List ℕ) (vs : List Meaning) : Type 0 where
  pub small : holds_sections kind ≡ true → IsBytes b
  pub means : MeansContent (Stream n) kind b (content_by (holds_sections kind) n b vs).0
  pub none : (content_by (holds_sections kind) n b vs).1 ≡ []
