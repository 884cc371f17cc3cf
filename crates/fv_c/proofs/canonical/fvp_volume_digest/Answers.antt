use Rattle.fv_c.proofs.canonical.fvp_volume_digest.Goals as goal

pub returns-in-Err-clause-fits : goal.returns-in-Err-clause-fits
returns-in-Err-clause-fits c = λ image to _. c.set_fault.ensures.memory (c.in-Err.ensures.fits image to)
