use Rattle.std.proofs.Common.{◌≡◌, ◌+◌, ℕ, true, List, false, length, ap, ◌∙◌, arith}
use Rattle.fv_base.proofs.Laws.{common_steps}
use Rattle.fv_head.specs.Words.{polarity_of}
use Rattle.fv_tree.specs.Words.{SectionMeaning, FileMeaning, body_of, files_from, body_view, volumes_in_section}
use Rattle.fv_tree.specs.inner.Sizes.{volume_size, body_size, files_size}
use Rattle.fv_tree.proofs.Laws.{file_falls, section_body_falls}
use Rattle.fv_canon.specs.Words.{size_for}
use Rattle.fv_canon.specs.inner.SummingSinks.{image_by, sums}
use Rattle.fv_canon.proofs.DataBodyLaws.{data_image, data_size}
use Rattle.fv_canon.proofs.LaidFileLaws.{file_laid, stored_is, at_file, files_end, walk_goes, placed_on}
use Rattle.fv_canon.proofs.LaidSectionLaws.{section_fits, section_laid, in_body, body_laid, goes_on, front_more, front_end}
use Rattle.fv_canon.proofs.VolumeListLaws.{passed_on}
use Rattle.fv_canon.proofs.VolumeWalks.{volume_is, volume_seen, volume_text, volume_rest}
use Rattle.fv_canon.proofs.image_walk.+put.Goals.{put_file-else-is_summing-via-else-is_summing}
use Rattle.fv_canon.proofs.image_walk.+put.Goals.{put_file-else-is_summing-via-then-is_summing+else-is_summed}
use Rattle.fv_canon.proofs.image_walk.+put.Goals as goal

pub put_sections-put_section_head-requires : goal.put_sections-put_section_head-requires
put_sections-put_section_head-requires g t c = (section_fits c.in-Some.section c.known.ensures).0

pub put_sections-put_body-rest-requires : goal.put_sections-put_body-rest-requires
put_sections-put_body-rest-requires g t c κs within =
    let first = rw c.in-Some.is at c.next_section.ensures.some in
    let walk = passed_on _ _ _ _ (rw first at c.loop-section.invariant.comes) in
    let less = section_body_falls c.loop-section.walk.0 c.next_section.new.self.0 c.in-Some.section first in
    let same : body_size (body_view c.body.result) ≡ body_size (body_of c.in-Some.section) = ap body_size c.body.ensures in (
      omega (arith, c.decreases, less, same, c.loop-section.invariant.less),
      (within, rw c.body.ensures (body_laid c.in-Some.section c.loop-section.rest.now walk.0)),
    )

pub put_sections-filler_of-gap-requires : goal.put_sections-filler_of-gap-requires
put_sections-filler_of-gap-requires g t c = (section_fits c.in-Some.section c.known.ensures).1

pub put_sections-loop-section-preserved : goal.put_sections-loop-section-preserved
put_sections-loop-section-preserved g t c =
    let s : SectionMeaning = c.in-Some.section in
    let rest : List ℕ = c.loop-section.rest.now in
    let first = rw c.in-Some.is at c.next_section.ensures.some in
    let at = passed_on (volumes_in_section s) _ rest _ (rw first at c.loop-section.invariant.comes) in
    let body = c.put_body-rest.ensures.bytes in
    let less = section_body_falls _ _ s first in
    rw (c.put_body-rest.ensures.rest, c.body.ensures, ← in_body s, c.filler_of-gap.ensures) (record {
      small = omega arith;
      comes = at.1;
      done = front_more _ (image_by g.S.Sink.laws) _ _ c.fill.new.out c.put_section_head.new.out c.put_body-rest.new.out _ _ _ _ _ _
          c.loop-section.invariant.done (goes_on _ _ s rest c.loop-section.gap first (section_laid s rest c.known.ensures at.0).1)
          c.fill.ensures c.put_section_head.ensures (rw c.body.ensures at body);
      tail = c.next_section.ensures.tail ∙ c.loop-section.invariant.tail;
      some = λ _. omega (arith, ap length first, c.loop-section.invariant.fewer);
      none = λ e. let bad : false ≡ true = e in cc;
      less = omega (arith, less, c.loop-section.invariant.less);
      fewer = omega (arith, ap length first, c.loop-section.invariant.fewer);
    })

pub put_sections-returns-then-not-is_empty-clause-bytes : goal.put_sections-returns-then-not-is_empty-clause-bytes
put_sections-returns-then-not-is_empty-clause-bytes g t c =
    let fill = c.fill-then-not-is_empty.ensures in
    front_end _ (image_by g.S.Sink.laws) c.args.sections.0 _ _ _ c.fill-then-not-is_empty.new.out _ _ _ c.args.sections.1
    (rw c.in_default.is at c.next_section.ensures.none).0 (c.loop-section.invariant.some c.if-not-is_empty.true) c.loop-section.invariant.done
    (rw (c.from.ensures, c.tail.ensures, c.next_section.ensures.tail, c.loop-section.invariant.tail) at fill)

pub put_file-returns-clause-bytes : goal.put_file-returns-clause-bytes
put_file-returns-clause-bytes g t c =
    let laws = image_by g.S.Sink.laws in
    let head = c.put_file_head.ensures in
    let payload = c.put_body.ensures.bytes in
    rw (stored_is c.args.polarity c.args.file.now c.args.starts.now (file_laid c.args.file.now c.args.starts.now c.known.ensures c.requires.laid).1)
    (laws.joined {s = c.args.out.now} {t = c.put_file_head.new.out} {u = c.put_body.new.out}
    (laws.joined {s = c.args.out.now} {t = c.file_sum-sum.new.out} {u = c.put_file_head.new.out} c.file_sum-sum.ensures.none
    (rw c.file_sum-sum.ensures.value at head)) (rw (c.data_body.ensures, data_image c.args.file.now c.args.starts.now) at payload))

pub put_files-overflow_sub-start : goal.put_files-overflow_sub-start
put_files-overflow_sub-start g t c = (at_file _ _ _ _ _ _ c.loop-i-test.true c.index-files-i.is c.loop-i.invariant.placed).here.low

pub put_files-put_gap-requires : goal.put_files-put_gap-requires
put_files-put_gap-requires g t c =
    let at = (at_file _ _ _ _ _ _ c.loop-i-test.true c.index-files-i.is c.loop-i.invariant.placed).here in
    record { fits = at.apart; multiple = at.multiple }

pub put_files-put_file-rest-requires : goal.put_files-put_file-rest-requires
put_files-put_file-rest-requires g t c κs within =
    let at = at_file _ _ _ _ _ _ c.loop-i-test.true c.index-files-i.is c.loop-i.invariant.placed in
    let walk = passed_on _ _ _ _ (rw at.files at c.loop-i.invariant.walk) in
    let less = file_falls c.args.files.now c.loop-i.i c.index-files-i.result c.loop-i-test.true c.index-files-i.is in
    (omega (arith, c.decreases, less), (within, (walk.0, at.here.most)))

pub put_files-size_for-requires : goal.put_files-size_for-requires
put_files-size_for-requires g t c =
    omega (arith, (at_file _ _ _ _ _ _ c.loop-i-test.true c.index-files-i.is c.loop-i.invariant.placed).here.most, c.data_len.ensures)

pub put_files-overflow_add-end : goal.put_files-overflow_add-end
put_files-overflow_add-end g t c =
    let at = at_file _ _ _ _ _ _ c.loop-i-test.true c.index-files-i.is c.loop-i.invariant.placed in
    let sz = c.size_for.ensures ∙ ap size_for c.data_len.ensures in omega (arith, at.here.ends, sz, c.requires.placed.limit)

pub put_files-up_to_8-edge-requires : goal.put_files-up_to_8-edge-requires
put_files-up_to_8-edge-requires g t c =
    let at = at_file _ _ _ _ _ _ c.loop-i-test.true c.index-files-i.is c.loop-i.invariant.placed in
    let sz = c.size_for.ensures ∙ ap size_for c.data_len.ensures in omega (arith, at.here.ends, sz, c.requires.placed.limit)

pub put_files-loop-i-preserved : goal.put_files-loop-i-preserved
put_files-loop-i-preserved g t c =
    let f : FileMeaning = c.index-files-i.result in
    let rest : List ℕ = c.loop-i.rest.now in
    let at = at_file _ _ _ _ _ _ c.loop-i-test.true c.index-files-i.is c.loop-i.invariant.placed in
    let walk = passed_on _ _ _ _ (rw at.files at c.loop-i.invariant.walk) in
    let long = (file_laid f rest c.known.ensures walk.0).1 in
    let filled = c.fill.ensures in
    rw (c.up_to_8-edge.ensures, c.size_for.ensures, c.data_len.ensures, c.put_file-rest.ensures.rest) (record {
      placed = placed_on _ _ _ _ _ _ at.placed;
      walk = walk.1;
      done = front_more _ (image_by g.S.Sink.laws) _ _ c.put_gap.new.out c.put_file-rest.new.out c.fill.new.out _ _ _ _ _ _
          c.loop-i.invariant.done (walk_goes c.args.polarity _ _ _ _ _ f rest at long) c.put_gap.ensures
          c.put_file-rest.ensures.bytes (rw (c.up_to_8-edge.ensures, c.size_for.ensures, c.data_len.ensures, c.erased.ensures.value) at filled);
    })

pub put_volume-split_at-requires : goal.put_volume-split_at-requires
put_volume-split_at-requires g t c = (volume_seen _ _ _ _ c.files-files.ensures c.head-head.ensures.head c.head-head.ensures.meaning
    c.requires.laid).enough

pub put_volume-used_end-used-requires : goal.put_volume-used_end-used-requires
put_volume-used_end-used-requires g t c =
    let v = volume_seen _ _ _ _ c.files-files.ensures c.head-head.ensures.head c.head-head.ensures.meaning c.requires.laid in
    (c.head-head.result.now.length, rw (c.split_at.ensures.front, c.first_edge-first.ensures.edge) v.placed)

pub put_volume-put_files-requires : goal.put_volume-put_files-requires
put_volume-put_files-requires g t c κs within =
    let v = volume_seen _ _ _ _ c.files-files.ensures c.head-head.ensures.head c.head-head.ensures.meaning c.requires.laid in
    let falls : volume_size c.args.volume.now ≡ files_size (files_from c.files-files.result.now) + 1 = ap volume_size c.files-files.ensures in (
      omega (arith, c.decreases, falls),
      (within, rw (c.split_at.ensures.front, c.split_at.ensures.back, c.first_edge-first.ensures.edge, c.length.ensures) (v.placed, v.inner)),
    )

pub put_volume-returns-clause-bytes : goal.put_volume-returns-clause-bytes
put_volume-returns-clause-bytes g t c =
    let v = volume_seen _ _ _ _ c.files-files.ensures c.head-head.ensures.head c.head-head.ensures.meaning c.requires.laid in
    let is = volume_is _ _ _ c.files-files.ensures c.head-head.ensures.head in
    let laws = image_by g.S.Sink.laws in
    let polar = c.polarity-polarity.ensures ∙ ap polarity_of c.attributes.ensures in
    let ext = c.put_ext_pad.ensures in
    let files = c.put_files.ensures.bytes in
    rw (is, volume_text _ _ _ v) (laws.joined {s = c.args.out.now} {t = c.put_head.new.out} {u = c.put_files.new.out} c.put_head.ensures.bytes
    (laws.joined {s = c.put_head.new.out} {t = c.put_ext_pad.new.out} {u = c.put_files.new.out}
    (rw (c.used_end-used.ensures.used, c.first_edge-first.ensures.edge, c.split_at.ensures.front) at ext)
    (rw (polar, c.length.ensures, c.first_edge-first.ensures.edge, c.split_at.ensures.front, c.split_at.ensures.back) at files)))

pub put_volume-returns-clause-rest : goal.put_volume-returns-clause-rest
put_volume-returns-clause-rest g t c = volume_rest _ _ _ _ _ c.files-files.ensures c.split_at.ensures.back c.put_files.ensures.rest

pub put_files-returns-clause-bytes : goal.put_files-returns-clause-bytes
put_files-returns-clause-bytes g t c =
    let fill = c.fill-2.ensures in
    files_end _ (image_by g.S.Sink.laws) _ _ _ _ _ _ _ _ _ c.fill-2.new.out _ c.loop-i-test.false c.loop-i.invariant.done
    (rw c.erased-2.ensures.value at fill)

pub put_file-file_sum-sum-requires : goal.put_file-file_sum-sum-requires
put_file-file_sum-sum-requires g t c κs within =
    grind (arith, common_steps, sums, put_file-else-is_summing-via-then-is_summing+else-is_summed, put_file-else-is_summing-via-else-is_summing, data_size) steps 400000
