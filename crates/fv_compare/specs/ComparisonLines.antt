-- The line of a comparison.
use Rattle.std.specs.Prelude.{List, [], ◌∷◌, ◌++◌, ℕ, codes, decimal, Some, None}
use Rattle.fv_text.specs.Words.{line_feed}
use Rattle.fv_tree.specs.Words.{Differs}
use Rattle.fv_tree.specs.declared.difference.Step.{Step}
use Rattle.fv_tree.specs.declared.difference.Step.TheVariants as steps
use Rattle.fv_tree.specs.declared.difference.DifferenceKind.{DifferenceKind}
use Rattle.fv_tree.specs.declared.difference.DifferenceKind.TheVariants as kinds

-- the text of a step, followed by a space
abbrev pub step_text : Step → List ℕ
step_text (steps.File number) = codes "file " ++ (decimal number ++ codes " ")
step_text (steps.Section number) = codes "section " ++ (decimal number ++ codes " ")

-- the text of the steps, from the outer volume down
abbrev pub path_text : List Step → List ℕ
path_text [] = []
path_text (s ∷ ss) = step_text s ++ path_text ss

-- the text of a kind of difference
abbrev pub difference_word : DifferenceKind → List ℕ
difference_word kinds.ZeroVector = codes "zero vector"
difference_word kinds.FileSystem = codes "file system"
difference_word kinds.Length = codes "length"
difference_word kinds.VolumeAttributes = codes "volume attributes"
difference_word kinds.Reserved = codes "reserved"
difference_word kinds.BlockMap = codes "block map"
difference_word kinds.ExtendedHeader = codes "extended header"
difference_word kinds.FileCount = codes "file count"
difference_word kinds.Name = codes "name"
difference_word kinds.Type = codes "type"
difference_word kinds.Attributes = codes "attributes"
difference_word kinds.Data = codes "data"
difference_word kinds.SectionCount = codes "section count"
difference_word kinds.Tail = codes "tail"
difference_word kinds.Form = codes "form"
difference_word kinds.Shape = codes "shape"
difference_word kinds.Body = codes "body"

-- the line for two volumes: where they first differ, or `same` if they have the same meaning
abbrev pub compare_line : Differs → List ℕ
compare_line None = codes "same" ++ line_feed
compare_line (Some d) = codes "different at " ++ (path_text d.0 ++ (difference_word d.1 ++ line_feed))
