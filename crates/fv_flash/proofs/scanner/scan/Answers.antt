use Rattle.fv_base.proofs.Laws.{arith, take_all, common_steps, map-append, take_more, err_is}
use Rattle.fv_flash.proofs.ScanLaws.{one_found, some_place}
use Rattle.fv_flash.proofs.scanner.scan.Goals as goal

pub returns-in_err-push-clause-memory : goal.returns-in_err-push-clause-memory
returns-in_err-push-clause-memory c =
    rw (err_is c.from_residual-in_err-push.ensures.1)
    (some_place c.args.bytes.now c.in_ok-found.found.items c.loop-volume.volume-index c.in_ok-found.ensures.found
    (rw (← c.as_slice-volume-items.ensures.value) c.loop-volume-test.true))

pub loop-volume-preserved : goal.loop-volume-preserved
loop-volume-preserved c = grind (arith, common_steps, map-append, take_more)

pub returns-clause-found : goal.returns-clause-found
returns-clause-found c = grind (arith, common_steps, take_all)

pub returns-clause-only : goal.returns-clause-only
returns-clause-only c = λ p f. one_found c.args.bytes.now p c.loop-volume.offsets.items f (returns-clause-found c)
