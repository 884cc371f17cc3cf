use Rattle.std.proofs.Common.{◌∙◌, length, refl, ap}
use Rattle.fv_rows.specs.Words.{part_node}
use Rattle.fv_tree.specs.Words.{files_of}
use Rattle.fv_tree.proofs.Laws.{files_list_back}
use Rattle.fv_canon.proofs.LayoutWalkLaws.{other_first, passed_next}
use Rattle.fv_canon.proofs.layout_walk.skip_starts.Goals as goal

pub loop-row-init : goal.loop-row-init
loop-row-init c = (tt, tt, rw c.into_iter-row-iterator.ensures.into_iter_gives (record { laid = c.requires.laid; left = refl }))

pub split_at-requires : goal.split_at-requires
split_at-requires c =
    let many = ap length (ap files_of c.files.ensures ∙ files_list_back c.files.result.now) in
    (passed_next _ _ c.in-Some.row _ _ _ _ c.in-Some.ensures.steps (ap part_node c.in-Volume.is) many c.loop-row.invariant.2).0

pub loop-row-preserved-in-Volume : goal.loop-row-preserved-in-Volume
loop-row-preserved-in-Volume c =
    let many = ap length (ap files_of c.files.ensures ∙ files_list_back c.files.result.now) in
    (tt, tt, rw c.split_at.ensures.back (passed_next _ _ c.in-Some.row _ _ _ _ c.in-Some.ensures.steps (ap part_node c.in-Volume.is) many c.loop-row.invariant.2).1)

pub loop-row-preserved : goal.loop-row-preserved
loop-row-preserved c =
    (tt, tt, rw (other_first _ _ c.in-Some.row c.in-Some.ensures.steps c.in_default.not-Volume) at c.loop-row.invariant.2)

pub returns : goal.returns
returns c = let comes = c.loop-row.invariant.2 in (rw c.in-None.ensures.steps.0 at comes).left
