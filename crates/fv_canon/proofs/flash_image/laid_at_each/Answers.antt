use Rattle.fv_base.proofs.Laws.{at_index, err_is, common_steps, arith}
use Rattle.fv_flash.specs.Words.{VolumeAt}
use Rattle.fv_flash.proofs.Laws.{some_place}
use Rattle.fv_canon.proofs.LayoutWalkLaws.{some_items}
use Rattle.fv_canon.proofs.LaidVolumeLaws.{lays_stop}
use Rattle.fv_canon.proofs.flash_image.laid_at_each.Goals as goal

pub laid_at-requires : goal.laid_at-requires
laid_at-requires c =
    at_index (λ v. VolumeAt c.args.image.now v.offset v.length) c.args.found.now c.loop-volume.volume-index _ c.requires.1
    c.loop-volume-test.true

pub returns-in_err-laid_at-clause-err : goal.returns-in_err-laid_at-clause-err
returns-in_err-laid_at-clause-err c =
    rw (err_is c.from_residual-in_err-laid_at.ensures.1)
    (lays_stop c.args.image.now c.args.found.now c.loop-volume.volume-index _ c.loop-volume.volumes.items _ c.loop-volume.invariant
    c.loop-volume-test.true c.in_err-laid_at.ensures.err)

pub returns-in_err-volumes-clause-some : goal.returns-in_err-volumes-clause-some
returns-in_err-volumes-clause-some c =
    rw (err_is c.from_residual.ensures.1)
    (some_place c.args.image.now c.args.found.now 0 c.requires (some_items c.args.found.now c.in_err-volumes.ensures.succeeds))

pub returns-in_err-laid_at-clause-some : goal.returns-in_err-laid_at-clause-some
returns-in_err-laid_at-clause-some c =
    rw (err_is c.from_residual-in_err-laid_at.ensures.1)
    (some_place c.args.image.now c.args.found.now c.loop-volume.volume-index c.requires c.loop-volume-test.true)

pub returns-in_err-push-clause-some : goal.returns-in_err-push-clause-some
returns-in_err-push-clause-some c =
    rw (err_is c.from_residual-in_err-push.ensures.1)
    (some_place c.args.image.now c.args.found.now c.loop-volume.volume-index c.requires c.loop-volume-test.true)

pub loop-volume-preserved : goal.loop-volume-preserved
loop-volume-preserved c = grind (arith, common_steps)

pub returns-clause-ok : goal.returns-clause-ok
returns-clause-ok c = grind (arith, common_steps)
