-- The number of values in a meaning, which is the measure of recursions over it. Each file of a list is smaller than
-- the list.
use Rattle.std.specs.Prelude.{ℕ, ◌+◌, ◌≤◌, List, [], ◌∷◌}
use Rattle.fv_tree.specs.Meaning.{Meaning, Volume, FileMeanings, NoFiles, MoreFiles, FileMeaning, File, ContentMeaning}
use Rattle.fv_tree.specs.Meaning.{Plain, Sectioned, SectionMeanings, NoSections, MoreSections, SectionMeaning, Section}
use Rattle.fv_tree.specs.Meaning.{BodyMeaning, Leaf, Group, Nested}
use Rattle.std.proofs.Common.{arith}
use denote.Param.Weighed.{most}
use Rattle.fv_tree.specs.MeaningParts.{files_from}

abbrev mutual
  pub volume_size : Meaning → ℕ
  volume_size (Volume h fs) = files_size fs + 1

  pub files_size : FileMeanings → ℕ
  files_size NoFiles = 0
  files_size (MoreFiles f fs) = file_size f + files_size fs + 1

  pub file_size : FileMeaning → ℕ
  file_size (File n k a c) = content_size c + 1

  pub content_size : ContentMeaning → ℕ
  content_size (Plain b) = 0
  content_size (Sectioned ss t) = sections_size ss

  pub section_size : SectionMeaning → ℕ
  section_size (Section k e b) = body_size b + 1

  pub body_size : BodyMeaning → ℕ
  body_size (Leaf b) = 0
  body_size (Group ss t) = sections_size ss
  body_size (Nested v) = volume_size v

  pub sections_size : SectionMeanings → ℕ
  sections_size NoSections = 0
  sections_size (MoreSections s ss) = section_size s + sections_size ss + 1

-- each file of a list is smaller than the list
pub files_fall : (fs : List FileMeaning) → most (λ f. file_size f + 1) fs ≤ files_size (files_from fs)
files_fall [] = omega arith
files_fall (f ∷ fs) = omega (arith, files_fall fs)
