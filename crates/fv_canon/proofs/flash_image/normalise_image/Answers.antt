use Rattle.fv_base.proofs.Laws.{arith, common_steps, IfOk-weaker, kept_whole, err_is}
use Rattle.fv_canon.proofs.FlashImageLaws.{normalised_one}
use Rattle.fv_canon.proofs.flash_image.normalise_image.Goals as goal

pub returns-in_err-laid-clause-fits : goal.returns-in_err-laid-clause-fits
returns-in_err-laid-clause-fits c = rw (err_is c.from_residual.ensures.1) c.in_err-laid.ensures.fits

pub returns-clause-ok : goal.returns-clause-ok
returns-clause-ok c = grind (arith, common_steps, IfOk-weaker, kept_whole) steps 400000

pub returns-clause-only : goal.returns-clause-only
returns-clause-only c = λ other to.
    IfOk-weaker c.finish.result _ _ (λ bytes is. normalised_one c.args.image.now bytes other is to) (returns-clause-ok c)
