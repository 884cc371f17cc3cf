use Rattle.fv_base.proofs.Laws.{refl, err_is}
use Rattle.fv_command.proofs.unfix_run.put_unfixed.Goals as goal

pub returns-in_err-volume : goal.returns-in_err-volume
returns-in_err-volume g c = rw (err_is c.from_residual.ensures.1) (c.in_err-volume.ensures.err, refl)

pub returns : goal.returns
returns g c =
    let put = c.put_shown.ensures in (
      put.0,
      (c.in_ok-volume.volume, c.in_ok-volume.ensures.ok, rw c.as_slice.ensures at put.1),
      put.2,
    )
