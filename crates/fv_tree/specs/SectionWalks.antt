-- The sections that a walk over a file has not visited yet, level by level (PI specification, volume 3, sections 3.2.4
-- and 3.2.5).
use Rattle.std.specs.Prelude.{ℕ, ◌+◌, ◌≤◌, List, [], ◌∷◌, ◌++◌}
use Rattle.std.specs.List.{AllByRecursion}
use Rattle.fv_base.specs.Words.{depth_limit}
use Rattle.fv_section.specs.Words.{FrameForm}
use Rattle.fv_tree.specs.Denotes.{MeansSection}
use Rattle.fv_tree.specs.LookupInstances.{preorder}
use Rattle.fv_tree.specs.Meaning.{SectionMeaning}
use Rattle.fv_tree.specs.MeaningParts.{sections_from}

-- the sections on these levels, in preorder. A level is a list of the sections that are left in the file or in a group,
-- with the number of bytes after them. The last level is the innermost, and its sections come first
abbrev pub left_in : List (List SectionMeaning × ℕ) → List SectionMeaning
left_in [] = []
left_in (ss ∷ levels) = left_in levels ++ preorder (sections_from ss.0)

-- groups and opened volumes in the section, including the section itself, nest no deeper than the limit allows for a
-- section inside `depth` groups
abbrev pub NestsAt : ℕ → SectionMeaning → Type 0
NestsAt depth s = (n : ℕ) × (depth + n ≤ depth_limit) × (f : FrameForm) × MeansSection n f s

-- the sections of the first level nest no deeper than sections inside `depth` groups may (`NestsAt`), and each further
-- level is inside one more group
abbrev pub AreLevels : ℕ → List (List SectionMeaning × ℕ) → Type 0
AreLevels depth [] = Unit {0}
AreLevels depth (ss ∷ levels) = AllByRecursion (NestsAt depth) ss.0 × AreLevels (depth + 1) levels
