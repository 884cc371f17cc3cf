use Rattle.std.proofs.Common.{◌≡◌, ◌+◌, ◌*◌, drop, ◌^◌, ◌<◌, ◌≤◌, length}
use Rattle.fv_tree.specs.Words.{files_differ, sections_differ, files_from, sections_from, content_view, body_view}
use Rattle.fv_tree.specs.inner.Sizes.{volume_size, files_size, file_size, content_size, section_size, sections_size, body_size}
use Rattle.fv_tree.proofs.difference.+differ.Given as goal

-- the sections that were compared so far are equal, so the first difference of the streams is the first difference of
-- the sections that are left, which have the same tails as the streams
abbrev pub invariant-stream_difference-loop-section : goal.invariant-stream_difference-loop-section
invariant-stream_difference-loop-section l = record {
  same : sections_differ 0 (sections_from l.fn.sections.0) (sections_from l.fn.others.0)
      ≡ sections_differ l.number (sections_from l.left.0) (sections_from l.right.0);
  tail : l.left.1 ≡ l.fn.sections.1;
  other_tail : l.right.1 ≡ l.fn.others.1;
  less : sections_size (sections_from l.left.0) ≤ sections_size (sections_from l.fn.sections.0);
  few : l.number + length l.left.0 < 2 ^ 63;
}

abbrev pub decreases-stream_difference-loop-section : goal.decreases-stream_difference-loop-section
decreases-stream_difference-loop-section l = length l.left.0

abbrev pub invariant-files_difference-loop-i : goal.invariant-files_difference-loop-i
invariant-files_difference-loop-i l =
    files_differ 0 (files_from l.files) (files_from l.others)
    ≡ files_differ l.i (files_from (drop l.i l.files)) (files_from (drop l.i l.others))

abbrev pub decreases-stream_difference : goal.decreases-stream_difference
decreases-stream_difference l = 2 * sections_size (sections_from l.sections.0)

abbrev pub decreases-section_difference : goal.decreases-section_difference
decreases-section_difference l = 2 * section_size l.section.now

abbrev pub decreases-body_difference : goal.decreases-body_difference
decreases-body_difference l = 2 * body_size (body_view l.body) + 1

abbrev pub decreases-content_difference : goal.decreases-content_difference
decreases-content_difference l = 2 * content_size (content_view l.content) + 1

abbrev pub decreases-file_difference : goal.decreases-file_difference
decreases-file_difference l = 2 * file_size l.file.now

abbrev pub decreases-files_difference : goal.decreases-files_difference
decreases-files_difference l = 2 * files_size (files_from l.files.now) + 1

abbrev pub decreases-volume_difference : goal.decreases-volume_difference
decreases-volume_difference l = 2 * volume_size l.volume.now
