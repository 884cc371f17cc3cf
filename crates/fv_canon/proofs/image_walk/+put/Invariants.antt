use Rattle.std.proofs.Common.{◌≡◌, ◌+◌, ◌-◌, ◌*◌, ◌≤◌, ◌<◌, drop, length, true, false}
use Rattle.fv_tree.specs.Words.{sections_from, files_from, body_view, volumes_in_sections, volumes_in_files}
use Rattle.fv_tree.specs.inner.Sizes.{volume_size, files_size, file_size, sections_size, body_size}
use Rattle.fv_canon.specs.inner.ImageOf.{stored_of, starts_in, files_bytes}
use Rattle.fv_canon.proofs.ImageParts.{sections_bytes, ComesTo, TakesFront}
use Rattle.fv_canon.specs.inner.FileWalks.{ArePlaced}
use Rattle.fv_canon.specs.inner.SummingSinks.{ImageTakes}
use Rattle.fv_canon.proofs.image_walk.+put.Given as goal

abbrev pub invariant-put_sections-loop-section : goal.invariant-put_sections-loop-section
invariant-put_sections-loop-section g l = record {
  small : l.gap ≤ 3;
  comes : ComesTo (volumes_in_sections (sections_from l.walk.0)) l.rest
      (drop (starts_in (volumes_in_sections (sections_from l.fn.sections.0))) l.starts);
  done : TakesFront (ImageTakes g.S.Sink.takes) l.initial.out l.out (sections_bytes 0 (sections_from l.fn.sections.0) l.starts)
      (sections_bytes l.gap (sections_from l.walk.0) l.rest);
  tail : l.walk.1 ≡ l.fn.sections.1;
  some : l.is_empty ≡ false → 0 < length l.fn.sections.0;
  none : l.is_empty ≡ true → l.walk.0 ≡ l.fn.sections.0;
  less : sections_size (sections_from l.walk.0) ≤ sections_size (sections_from l.fn.sections.0);
  fewer : length l.walk.0 ≤ length l.fn.sections.0;
}

abbrev pub decreases-put_sections-loop-section : goal.decreases-put_sections-loop-section
decreases-put_sections-loop-section g l = length l.walk.0

abbrev pub decreases-put_sections : goal.decreases-put_sections
decreases-put_sections g l = 4 * sections_size (sections_from l.sections.0)

abbrev pub decreases-put_body : goal.decreases-put_body
decreases-put_body g l = 4 * body_size (body_view l.body) + 2

abbrev pub decreases-put_volume : goal.decreases-put_volume
decreases-put_volume g l = 4 * volume_size l.volume.now

abbrev pub decreases-file_sum : goal.decreases-file_sum
decreases-file_sum g l = 4 * file_size l.file.now - 1

abbrev pub decreases-put_file : goal.decreases-put_file
decreases-put_file g l = 4 * file_size l.file.now

abbrev pub decreases-put_files : goal.decreases-put_files
decreases-put_files g l = 4 * files_size (files_from l.files.now) + 2

abbrev pub invariant-put_files-loop-i : goal.invariant-put_files-loop-i
invariant-put_files-loop-i g l = record {
  placed : ArePlaced l.total l.edge (drop l.i l.files) (drop l.i l.own);
  walk : ComesTo (volumes_in_files (files_from (drop l.i l.files))) l.rest
      (drop (starts_in (volumes_in_files (files_from l.files))) l.starts);
  done :
      TakesFront (ImageTakes g.S.Sink.takes) l.initial.out l.out
      (files_bytes l.polarity l.total l.first (stored_of (files_from l.files) l.starts) l.own)
      (files_bytes l.polarity l.total l.edge (stored_of (files_from (drop l.i l.files)) l.rest) (drop l.i l.own));
}
