use Rattle.std.proofs.Common.{◌≡◌, List, drop, length, map}
use Rattle.fv_file.specs.Words.{CellForm, Walked, left_at}
use Rattle.fv_tree.specs.Words.{bare_form, files_in}
use Rattle.fv_tree.specs.inner.ReadingParts.{bare}
use Rattle.fv_tree.proofs.volume_files.files_in.Given as goal

-- the walk passed some cells, whose files are in the list
abbrev pub invariant-loop-files : goal.invariant-loop-files
invariant-loop-files l = (cs : List CellForm)
    × Walked (left_at l.extent.file_system l.extent.polarity l.extent.first (drop l.extent.first l.volume)) cs l.walk
    × (map bare_form l.files.items ≡ map bare (files_in cs))

abbrev pub decreases-loop-files : goal.decreases-loop-files
decreases-loop-files l = length l.walk.rest
