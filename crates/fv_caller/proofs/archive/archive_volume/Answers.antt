use Rattle.fv_base.proofs.Laws.{refl, inl, inr, err_is}
use Rattle.fv_caller.proofs.archive.archive_volume.Goals as goal

pub returns-in_err-volume-clause-err : goal.returns-in_err-volume-clause-err
returns-in_err-volume-clause-err c =
    rw (err_is c.from_residual.ensures.1) (
      c.in_err-volume.field-0.0,
      refl,
      elim c.in_err-volume.ensures.rejected [
        | inl want ↦ inl (want, c.in_err-volume.ensures.memory want)
        | inr bad ↦ inr (inl bad)
      ],
    )

pub returns-in_err-image-clause-err : goal.returns-in_err-image-clause-err
returns-in_err-image-clause-err c =
    let volume = c.in_ok-volume.ensures.found in
    rw (err_is c.from_residual-in_err-image.ensures.1) (
      c.in_err-image.field-0.0,
      refl,
      elim c.in_err-image.ensures.err [
        | inl want ↦ inl (want, (_, volume.1.extent, volume.1.begins))
        | inr unfit ↦ inr (inr (c.in_ok-volume.volume, volume, unfit))
      ],
    )
