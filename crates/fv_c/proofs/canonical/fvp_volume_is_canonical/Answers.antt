use Rattle.std.proofs.Common.{refl}
use Rattle.fv_c.proofs.canonical.fvp_volume_is_canonical.Goals as goal

pub returns-in-Ok-clause-ok : goal.returns-in-Ok-clause-ok
returns-in-Ok-clause-ok c = λ _.
    let (m, found, is) = c.in-Ok.ensures.ok in
    (m, found, (λ e. is.0 (c.flag.ensures.is.0 e), λ e. c.flag.ensures.is.1 (is.1 e)), c.flag.ensures.most, refl)
