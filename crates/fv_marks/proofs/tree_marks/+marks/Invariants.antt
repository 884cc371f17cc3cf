use Rattle.std.proofs.Common.{◌+◌, ◌*◌, ◌-◌, ℕ, List, length, map, drop}
use Rattle.fv_section.specs.Words.{FrameForm}
use Rattle.fv_tree.specs.Words.{file_form}
use Rattle.fv_marks.specs.Words.{BodyLoses, EachFileLoses, FramesLose, OnlyMarksChange, StreamLoses}
use Rattle.fv_marks.proofs.tree_marks.+marks.Given as goal

-- what the frames from the offset `at` on lose, the stream loses
abbrev pub invariant-take_in_stream-loop-section : goal.invariant-take_in_stream-loop-section
invariant-take_in_stream-loop-section l =
    OnlyMarksChange l.initial.stream l.stream
    × ((frames : List FrameForm) (o : List ℕ) → FramesLose (BodyLoses l.left) frames l.at l.stream o
    → StreamLoses (BodyLoses l.left) l.initial.stream o)

abbrev pub decreases-take_in_stream-loop-section : goal.decreases-take_in_stream-loop-section
decreases-take_in_stream-loop-section l = length l.initial.stream + 4 - l.at

-- what the other files lose, the volume loses
abbrev pub invariant-take_in_files-loop-file : goal.invariant-take_in_files-loop-file
invariant-take_in_files-loop-file l =
    OnlyMarksChange l.initial.bytes l.bytes
    × ((o : List ℕ) → EachFileLoses (StreamLoses (BodyLoses l.left)) (drop l.file-index (map (file_form l.initial.bytes) l.files)) l.bytes o
    → EachFileLoses (StreamLoses (BodyLoses l.left)) (map (file_form l.initial.bytes) l.files) l.initial.bytes o)

abbrev pub decreases-take_in_body : goal.decreases-take_in_body
decreases-take_in_body l = 5 * l.left

abbrev pub decreases-take_in_stream : goal.decreases-take_in_stream
decreases-take_in_stream l = 5 * l.left + 1

abbrev pub decreases-take_in_data : goal.decreases-take_in_data
decreases-take_in_data l = 5 * l.left + 2

abbrev pub decreases-take_in_files : goal.decreases-take_in_files
decreases-take_in_files l = 5 * l.left + 3

abbrev pub decreases-take_in_volume : goal.decreases-take_in_volume
decreases-take_in_volume l = 5 * l.left + 4
