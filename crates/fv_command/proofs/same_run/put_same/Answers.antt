use Rattle.fv_base.proofs.Laws.{inl, refl, err_is}
use Rattle.fv_command.proofs.same_run.put_same.Goals as goal

pub returns-in_err-bytes : goal.returns-in_err-bytes
returns-in_err-bytes g c =
    let (is, stops) = c.in_err-bytes.ensures.err in rw (err_is c.from_residual.ensures.1, is) (inl (refl, stops), refl)

pub returns-in_err-other : goal.returns-in_err-other
returns-in_err-other g c =
    let (is, stops) = c.in_err-other.ensures.err in
    rw (err_is c.from_residual-in_err-other.ensures.1, is) (((_, c.in_ok-bytes.ensures.ok), stops), refl)
