use Rattle.std.proofs.lemmas.Grind.{common_steps}
use Rattle.std.proofs.Common.{◌∙◌, ◌-◌, ◌≤◌, ◌∷◌, List, length, take, drop, sym, ap, arith}
use Rattle.std.proofs.lemmas.Bool.{eqb-true}
use Rattle.std.proofs.lemmas.List.{take_all}
use Rattle.fv_section.specs.Words.{frame_form}
use Rattle.fv_tree.specs.Words.{Meaning, SectionMeaning}
use Rattle.fv_tree.proofs.WalkedSectionLaws.{none_after, group_kept, group_view, volume_view, first_kept, rest_kept, each_first, no_sections}
use Rattle.fv_tree.proofs.view.section.+after.Goals as goal

pub after_section-returns-then-is_empty : goal.after_section-returns-then-is_empty
after_section-returns-then-is_empty t c = none_after c.args.left _ c.args.volumes.now (eqb-true _ _ (sym c.is_empty.ensures ∙ c.if-is_empty.true))

pub after_section-after_stream-requires : goal.after_section-after_stream-requires
after_section-after_stream-requires t c =
    let group = group_kept c.args.left (frame_form c.args.frame.now) c.args.volumes.now (sym c.shape_of.ensures ∙ c.in-Group.is) c.requires in
    (omega (arith, group.0), group.1)

pub after_section-returns-in-Group : goal.after_section-returns-in-Group
after_section-returns-in-Group t c =
    let is = sym c.shape_of.ensures ∙ c.in-Group.is in
    let group = group_kept c.args.left (frame_form c.args.frame.now) c.args.volumes.now is c.requires in
    c.after_stream.ensures ∙ sym (ap (λ (r : SectionMeaning × List Meaning). r.1) (group_view c.args.left _ c.args.volumes.now is group.0))

pub after_section-returns-in-Volume : goal.after_section-returns-in-Volume
after_section-returns-in-Volume t c =
    let (v, rest, is, view) = volume_view c.args.left (frame_form c.args.frame.now) c.args.volumes.now (sym c.shape_of.ensures ∙ c.in-Volume.is) c.requires in
    ap (λ (vs : List Meaning). take (length vs - 1) (drop 1 vs)) is ∙ take_all (length (v ∷ rest) - 1) rest (omega arith)
    ∙ sym (ap (λ (r : SectionMeaning × List Meaning). r.1) view)

pub after_stream-after_section-rest-requires : goal.after_stream-after_section-rest-requires
after_stream-after_section-rest-requires t c =
    let least : 4 ≤ length c.loop-bytes.bytes.now = omega (arith, c.loop-bytes-test.true) in
    (omega arith, rw c.split_frame.ensures.frame (first_kept c.args.left c.loop-bytes.bytes.now _ least c.loop-bytes.invariant.kept))

pub after_stream-loop-bytes-preserved : goal.after_stream-loop-bytes-preserved
after_stream-loop-bytes-preserved t c =
    let least : 4 ≤ length c.loop-bytes.bytes.now = omega (arith, c.loop-bytes-test.true) in
    let taken = rw c.split_frame.ensures.frame at c.after_section-rest.ensures in
    rw (c.split_frame.ensures.after, taken) (record {
      kept = rest_kept c.args.left c.loop-bytes.bytes.now c.loop-bytes.rest.now least c.loop-bytes.invariant.kept;
      same = c.loop-bytes.invariant.same ∙ ap (λ (r : List SectionMeaning × List Meaning). r.1) (each_first c.args.left _ _ least);
    })

pub after_stream-returns : goal.after_stream-returns
after_stream-returns t c = grind (arith, common_steps, no_sections) steps 150000
