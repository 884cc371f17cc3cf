use Rattle.std.proofs.Common.{rules, sym, subst, arith}
use Rattle.fv_base.proofs.Laws.{at_index, err_is, common_steps}
use Rattle.fv_flash.specs.Words.{AreFound, VolumeAt}
use Rattle.fv_flash.proofs.Laws.{some_place}
use Rattle.fv_canon.proofs.ImageCheckLaws.{checks_one}
use Rattle.fv_canon.proofs.image_check.check_image.Goals as goal

pub check_at-requires : goal.check_at-requires
check_at-requires c =
    at_index (λ v. VolumeAt c.args.image.now v.offset v.length) c.as_slice-volume-items.result.now c.loop-volume.volume-index _
    (subst (AreFound c.args.image.now) (sym c.as_slice-volume-items.ensures.value) c.in_ok-found.ensures.found).1 c.loop-volume-test.true

pub returns-in_err-check-clause-memory : goal.returns-in_err-check-clause-memory
returns-in_err-check-clause-memory c = grind (arith, common_steps, err_is) steps 400000

pub returns-in_err-check_at-clause-memory : goal.returns-in_err-check_at-clause-memory
returns-in_err-check_at-clause-memory c =
    let place = some_place c.args.image.now c.in_ok-found.found.items c.loop-volume.volume-index c.in_ok-found.ensures.found
    (rw (← c.as_slice-volume-items.ensures.value) c.loop-volume-test.true) in
    rw (err_is c.from_residual-in_err-check_at.ensures.1) (λ want. (search rules, place))

pub returns-in_err-push-clause-memory : goal.returns-in_err-push-clause-memory
returns-in_err-push-clause-memory c =
    let place = some_place c.args.image.now c.in_ok-found.found.items c.loop-volume.volume-index c.in_ok-found.ensures.found
    (rw (← c.as_slice-volume-items.ensures.value) c.loop-volume-test.true) in
    rw (err_is c.from_residual-in_err-push.ensures.1) (λ want. (search rules, place))

pub returns-clause-found : goal.returns-clause-found
returns-clause-found c = grind (arith, common_steps)

pub returns-clause-only : goal.returns-clause-only
returns-clause-only c = λ other to. checks_one c.args.image.now other c.loop-volume.checks.items to (returns-clause-found c)

pub loop-volume-preserved : goal.loop-volume-preserved
loop-volume-preserved c = grind (arith, common_steps)
