use Rattle.fv_base.proofs.Laws.{common_steps, arith, drop_of_length-le, item_at}
use Rattle.fv_canon.proofs.LaidVolumeLaws.{laid_all, laid_ends, laid_more, laid_next, laid_none}
use Rattle.fv_canon.proofs.flash_image.put_normalised.Goals as goal

pub loop-volume-init : goal.loop-volume-init
loop-volume-init g c = laid_none g.S.Sink.takes g.S.Sink.laws _ c.args.image.now c.args.volumes.now c.requires

pub between-requires : goal.between-requires
between-requires g c = grind (arith, common_steps, laid_next, item_at) steps 400000

pub loop-volume-preserved : goal.loop-volume-preserved
loop-volume-preserved g c =
    let put = c.put_canonical.ensures in
    rw (c.length.ensures, c.head.ensures.head, c.volume-view.ensures) (laid_more g.S.Sink.takes g.S.Sink.laws _ c.args.image.now
    c.args.volumes.now _ c.loop-volume.from c.volume-item.result _ c.between.result.now put.0 c.loop-volume.invariant
    (item_at c.args.volumes.now c.loop-volume.volume-index c.volume-item.result c.loop-volume-test.true c.volume-item.is)
    c.between.ensures c.put.ensures (rw c.volume-view.ensures at put.1) put.2)

pub returns : goal.returns
returns g c =
    laid_all g.S.Sink.takes g.S.Sink.laws _ c.args.image.now c.args.volumes.now _ c.loop-volume.from c.bytes_from.result.now c.requires
    c.loop-volume.invariant (drop_of_length-le c.args.volumes.now c.loop-volume-test.false) c.bytes_from.ensures c.put-2.ensures

pub overflow_add-from : goal.overflow_add-from
overflow_add-from g c = grind (arith, common_steps, laid_ends) steps 400000
