use Rattle.std.proofs.lemmas.Grind.{common_steps}
use Rattle.std.proofs.Common.{arith, refl}
use Rattle.fv_canon.specs.Words.{NormalisesTo}
use Rattle.fv_canon.proofs.Laws.{image_stays_long}
use Rattle.fv_c.proofs.canonical.fvp_volume_normalise.Goals as goal

pub returns-in-Err-clause-fits : goal.returns-in-Err-clause-fits
returns-in-Err-clause-fits c = λ image to _ _. c.set_fault.ensures.memory (c.in-Err.ensures.fits image to)

pub returns-then-buffer-volume-clause-small : goal.returns-then-buffer-volume-clause-small
returns-then-buffer-volume-clause-small c = λ _.
    let to : NormalisesTo c.args.volume.now c.in-Ok.ensures.image.0 = (c.in-Ok.laid, c.in-Ok.ensures.found, c.in-Ok.ensures.image.1) in
    let long = image_stays_long _ _ to in
    (c.in-Ok.ensures.image.0, to, long, omega (arith, c.if-buffer-volume.true), refl)

pub returns-clause-ok : goal.returns-clause-ok
returns-clause-ok c = λ _.
    let (image, is, put) = c.put_canonical.ensures in
    let to : NormalisesTo c.args.volume.now image = (c.in-Ok.laid, c.in-Ok.ensures.found, rw c.volume.ensures at is) in
    let long = image_stays_long _ _ to in
    (image, to, long, grind (arith, common_steps), refl)
