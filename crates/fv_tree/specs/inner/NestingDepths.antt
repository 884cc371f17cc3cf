-- How deep groups and volumes nest in a meaning that was read, according to the relation by which it was read.
use Rattle.std.specs.Prelude.{Bool, ℕ, List}
use Rattle.std.specs.List.{AllByRecursion}
use Rattle.fv_section.specs.Words.{FrameForm}
use Rattle.fv_tree.specs.Denotes.{Denotes, MeansContent, MeansFile, MeansSection, Stream}
use Rattle.fv_tree.specs.Meaning.{Meaning, FileMeanings, files_list, ContentMeaning, SectionMeanings, sections_list}
use Rattle.fv_tree.specs.Meaning.{Section, BodyMeaning}
use Rattle.fv_tree.specs.VolumeFiles.{FileForm}

-- some bytes were read as this volume, in which groups and opened volumes nest at most n deep
abbrev pub NestsVolume : Meaning → ℕ → Type 0
NestsVolume m n = (b : List ℕ) × Denotes n b m

-- the same for each of some files
abbrev pub NestsFiles : FileMeanings → ℕ → Type 0
NestsFiles files n = AllByRecursion (λ m. (f : FileForm) × MeansFile (Stream n) f m) (files_list files)

-- the same for the data of a file
abbrev pub NestsContent : ContentMeaning → ℕ → Type 0
NestsContent content n = (kind : ℕ) × (payload : List ℕ) × MeansContent (Stream n) kind payload content

-- the same for each of some sections
abbrev pub NestsSections : SectionMeanings → ℕ → Type 0
NestsSections sections n = AllByRecursion (λ s. (f : FrameForm) × MeansSection n f s) (sections_list sections)

-- the same for the body of a section
abbrev pub NestsBody : BodyMeaning → ℕ → Type 0
NestsBody body n = (f : FrameForm) × (kind : ℕ) × (extended : Bool) × MeansSection n f (Section kind extended body)
