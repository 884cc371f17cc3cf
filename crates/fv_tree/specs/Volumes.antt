-- A volume and the volumes nested in it, each with its depth (PI specification, volume 3, section 3.2: a section of a
-- file may hold a volume).
use Rattle.std.specs.Prelude.{ℕ, ◌+◌, List, [], ◌∷◌, ◌++◌, map}
use Rattle.fv_tree.specs.Meaning.{Meaning, Volume, FileMeanings, NoFiles, MoreFiles, FileMeaning, File, ContentMeaning}
use Rattle.fv_tree.specs.Meaning.{Plain, Sectioned, SectionMeanings, NoSections, MoreSections, SectionMeaning, Section}
use Rattle.fv_tree.specs.Meaning.{BodyMeaning, Leaf, Group, Nested}

-- a volume, and how deep it is nested in another
pub record Inside : Type 0 where
  pub depth : ℕ
  pub volume : Meaning

-- the same volumes, one level deeper
abbrev pub deeper : List Inside → List Inside
deeper vs = map (λ v. record { depth = v.depth + 1; volume = v.volume }) vs

-- the volumes in a part of a volume, in preorder: each volume is followed by the volumes in its files. The depth counts
-- the sections around a volume in this part. If the part itself is a volume, or is a body that is a volume, that volume
-- has the depth 0
abbrev mutual
  pub volumes_in : Meaning → List Inside
  volumes_in (Volume h files) = record { depth = 0; volume = Volume h files } ∷ volumes_in_files files

  pub volumes_in_files : FileMeanings → List Inside
  volumes_in_files NoFiles = []
  volumes_in_files (MoreFiles f fs) = volumes_in_file f ++ volumes_in_files fs

  pub volumes_in_file : FileMeaning → List Inside
  volumes_in_file (File name kind attributes content) = volumes_in_content content

  pub volumes_in_content : ContentMeaning → List Inside
  volumes_in_content (Plain b) = []
  volumes_in_content (Sectioned sections tail) = volumes_in_sections sections

  pub volumes_in_sections : SectionMeanings → List Inside
  volumes_in_sections NoSections = []
  volumes_in_sections (MoreSections s ss) = volumes_in_section s ++ volumes_in_sections ss

  pub volumes_in_section : SectionMeaning → List Inside
  volumes_in_section (Section kind extended body) = deeper (volumes_in_body body)

  pub volumes_in_body : BodyMeaning → List Inside
  volumes_in_body (Leaf b) = []
  volumes_in_body (Group sections tail) = volumes_in_sections sections
  volumes_in_body (Nested volume) = volumes_in volume
