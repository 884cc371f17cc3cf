use Rattle.std.proofs.lemmas.Grind.{common_steps}
use Rattle.std.proofs.Common.{◌∙◌, arith, refl}
use Rattle.fv_canon.proofs.Laws.{laid_renewed}
use Rattle.fv_c.proofs.canonical.fvp_image_normalise.Goals as goal

pub returns-in-Err-clause-fits : goal.returns-in-Err-clause-fits
returns-in-Err-clause-fits c = λ bytes to _ _. c.set_fault.ensures.memory (c.in-Err.ensures.fits bytes to)

pub returns-then-buffer-image-clause-small : goal.returns-then-buffer-image-clause-small
returns-then-buffer-image-clause-small c = λ _.
    let (bytes, all) = rw (c.laid.view_is ∙ c.in-Ok.ensures.ok) at (laid_renewed _ _ c.laid.invariant) in
    let long = all.3.length_is in
    (bytes, all, long, omega (arith, long, c.if-buffer-image.true), refl)

pub returns-clause-ok : goal.returns-clause-ok
returns-clause-ok c = grind (arith, common_steps)
