use Rattle.std.proofs.Common.{◌+◌, ◌*◌, length, take, map}
use Rattle.fv_tree.specs.Words.{Pairwise, MeansFile, Stream, file_form}
use Rattle.fv_tree.proofs.StreamWalkLaws.{StreamWalked}
use Rattle.fv_tree.proofs.read.+read.Given as goal

abbrev pub invariant-read_stream-loop-frame : goal.invariant-read_stream-loop-frame
invariant-read_stream-loop-frame l =
    StreamWalked l.at.left l.bytes l.walk.1 l.walk.0 l.initial.volumes.items l.volumes.items

abbrev pub decreases-read_stream-loop-frame : goal.decreases-read_stream-loop-frame
decreases-read_stream-loop-frame l = length l.walk.0

abbrev pub invariant-read_files-loop-file : goal.invariant-read_files-loop-file
invariant-read_files-loop-file l =
    Pairwise (MeansFile (Stream l.at.left)) (take l.file-index (map (file_form l.volume) l.files)) l.views.items

abbrev pub decreases-read_section : goal.decreases-read_section
decreases-read_section l = 7 * l.at.left

abbrev pub decreases-read_stream : goal.decreases-read_stream
decreases-read_stream l = 7 * l.at.left + 1

abbrev pub decreases-read_data : goal.decreases-read_data
decreases-read_data l = 7 * l.at.left + 2

abbrev pub decreases-read_file : goal.decreases-read_file
decreases-read_file l = 7 * l.at.left + 3

abbrev pub decreases-read_files : goal.decreases-read_files
decreases-read_files l = 7 * l.at.left + 4

abbrev pub decreases-read_with_files : goal.decreases-read_with_files
decreases-read_with_files l = 7 * l.at.left + 5

abbrev pub decreases-read_at : goal.decreases-read_at
decreases-read_at l = 7 * l.at.left + 6
