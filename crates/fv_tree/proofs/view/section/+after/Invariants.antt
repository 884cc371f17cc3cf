use Rattle.std.proofs.Common.{◌≡◌, ◌+◌, ◌*◌, length}
use Rattle.fv_tree.specs.Words.{each_by, frames_of, section_by, AreKept}
use Rattle.fv_tree.proofs.view.section.+after.Given as goal

abbrev pub decreases-after_section : goal.decreases-after_section
decreases-after_section l = 2 * l.left

abbrev pub decreases-after_stream : goal.decreases-after_stream
decreases-after_stream l = 2 * l.left + 1

-- the sections that are left were read, and leave the same volumes as all sections of the stream
abbrev pub invariant-after_stream-loop-bytes : goal.invariant-after_stream-loop-bytes
invariant-after_stream-loop-bytes l = record {
  kept : AreKept l.left l.bytes l.rest;
  same : (each_by (section_by l.left) (frames_of l.fn.stream) l.fn.volumes).1 ≡ (each_by (section_by l.left) (frames_of l.bytes) l.rest).1;
}

abbrev pub decreases-after_stream-loop-bytes : goal.decreases-after_stream-loop-bytes
decreases-after_stream-loop-bytes l = length l.bytes
