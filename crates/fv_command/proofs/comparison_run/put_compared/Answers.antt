use Rattle.fv_base.proofs.Laws.{inl, inr, refl, err_is}
use Rattle.fv_command.proofs.comparison_run.put_compared.Goals as goal

pub returns-in_err-bytes : goal.returns-in_err-bytes
returns-in_err-bytes g c =
    let (is, stops) = c.in_err-bytes.ensures.err in rw (err_is c.from_residual.ensures.1, is) (inl (refl, inl stops), refl)

pub returns-in_err-volume : goal.returns-in_err-volume
returns-in_err-volume g c =
    let taken = rw c.deref.ensures.value at c.taken_at.ensures in
    let (is, stops) = c.in_err-volume.ensures.err in
    rw (err_is c.from_residual-in_err-volume.ensures.1, is)
    (inl (refl, inr (_, (_, c.in_ok-bytes.ensures.ok, taken), stops)), refl)

pub returns : goal.returns
returns g c =
    let taken = rw c.deref.ensures.value at c.taken_at.ensures in
    c.compare_with.ensures c.args.at _ (_, (_, c.in_ok-bytes.ensures.ok, taken), c.in_ok-volume.ensures.ok)
