use Rattle.std.proofs.Common.{rules}
use Rattle.fv_base.proofs.Laws.{err_is}
use Rattle.fv_c.proofs.canonical.digest_of.Goals as goal

pub returns-in_err-laid-clause-fits : goal.returns-in_err-laid-clause-fits
returns-in_err-laid-clause-fits c = rw (err_is c.from_residual.ensures.1) (λ image to. c.in_err-laid.ensures.fits image to)

pub returns-clause-ok : goal.returns-clause-ok
returns-clause-ok c =
    let (image, is, put) = c.put_canonical.ensures in
    (image, (c.in_ok-laid.laid, c.in_ok-laid.ensures.found, rw c.volume.ensures at is), search rules)
