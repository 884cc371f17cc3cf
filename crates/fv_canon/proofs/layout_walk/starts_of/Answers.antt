use Rattle.std.proofs.Common.{◌∙◌, ◌++◌, length, ap, arith}
use Rattle.fv_base.proofs.Laws.{err_is, or_more}
use Rattle.fv_rows.specs.Words.{part_node}
use Rattle.fv_canon.proofs.LayoutWalkLaws.{collects_begun, collects_done, collects_other, collects_some, collects_unfit, collects_volume}
use Rattle.fv_canon.proofs.VolumeListLaws.{own_count}
use Rattle.fv_canon.proofs.layout_walk.starts_of.Goals as goal

pub loop-row-init : goal.loop-row-init
loop-row-init c = (tt, tt, collects_begun _ _ _ c.into_iter-row-iterator.ensures.into_iter_gives c.new-starts.ensures.items)

pub returns-in_err-own-clause-err : goal.returns-in_err-own-clause-err
returns-in_err-own-clause-err c =
    rw (err_is c.from_residual.ensures.1) (or_more c.in_err-own.ensures.err
    (λ unfit. collects_unfit c.in-Some.row c.in-Some.ensures.steps (ap part_node c.in-Volume.is) c.loop-row.invariant.2 _ unfit))

pub returns-in_err-own-clause-memory : goal.returns-in_err-own-clause-memory
returns-in_err-own-clause-memory c =
    rw (err_is c.from_residual.ensures.1) (λ want. collects_some c.in-Some.row c.in-Some.ensures.steps
    (ap part_node c.in-Volume.is) c.loop-row.invariant.2 (c.in_err-own.ensures.memory want))

pub returns-in_err-extend_from_slice-clause-memory : goal.returns-in_err-extend_from_slice-clause-memory
returns-in_err-extend_from_slice-clause-memory c =
    let own = own_count c.in-Volume.volume.now c.in_ok-own.own.items c.in_ok-own.ensures.ok in
    rw (err_is c.from_residual-in_err-extend_from_slice.ensures.1) (λ _. collects_some c.in-Some.row c.in-Some.ensures.steps
    (ap part_node c.in-Volume.is) c.loop-row.invariant.2
    (omega (arith, own, ap length c.as_slice.ensures.value, c.loop-row.starts.small, c.in_err-extend_from_slice.ensures.full)))

pub loop-row-preserved-in-Volume : goal.loop-row-preserved-in-Volume
loop-row-preserved-in-Volume c =
    let items = c.in_ok-extend_from_slice.ensures.items ∙ ap (λ own. c.loop-row.starts.items ++ own) c.as_slice.ensures.value in
    (tt, tt, collects_volume c.in-Some.row c.in-Some.ensures.steps (ap part_node c.in-Volume.is) c.loop-row.invariant.2 _ _ c.in_ok-own.ensures.ok items)

pub loop-row-preserved : goal.loop-row-preserved
loop-row-preserved c = (tt, tt, collects_other _ _ _ _ c.in-Some.row c.in-Some.ensures.steps c.in_default.not-Volume c.loop-row.invariant.2)

pub returns-clause-ok : goal.returns-clause-ok
returns-clause-ok c = collects_done _ _ _ c.in-None.ensures.steps.0 c.loop-row.invariant.2
