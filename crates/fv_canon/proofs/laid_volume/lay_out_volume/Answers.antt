use Rattle.std.proofs.Common.{◌++◌, arith}
use Rattle.fv_base.proofs.Laws.{err_is, depth_limit}
use Rattle.fv_canon.specs.inner.ImageOf.{image_of}
use Rattle.fv_canon.proofs.ImageLaws.{image_is}
use Rattle.fv_canon.proofs.RejectedInputLaws.{image_fits, not_placed, not_read, not_read_never, unfit_kind}
use Rattle.fv_canon.proofs.laid_volume.lay_out_volume.Goals as goal

pub returns-in_err-volume-clause-err : goal.returns-in_err-volume-clause-err
returns-in_err-volume-clause-err c = rw (err_is c.from_residual.ensures.1) (not_read c.args.input.now _ c.in_err-volume.ensures.rejected)

pub returns-in_err-volume-clause-fits : goal.returns-in_err-volume-clause-fits
returns-in_err-volume-clause-fits c =
    λ image to. rw (err_is c.from_residual.ensures.1) (not_read_never c.args.input.now image _ c.in_err-volume.ensures.rejected to)

pub returns-in_err-places-clause-err : goal.returns-in_err-places-clause-err
returns-in_err-places-clause-err c =
    rw (err_is c.from_residual-in_err-places.ensures.1)
    (not_placed c.args.input.now c.in_ok-volume.volume _ c.in_ok-volume.ensures.found c.in_err-places.ensures.err)

pub returns-in_err-places-clause-fits : goal.returns-in_err-places-clause-fits
returns-in_err-places-clause-fits c =
    λ image to. rw (err_is c.from_residual-in_err-places.ensures.1)
    (c.in_err-places.ensures.fits (image_fits c.args.input.now image c.in_ok-volume.volume c.in_ok-volume.ensures.only to))

pub returns-in_err-places-clause-kind : goal.returns-in_err-places-clause-kind
returns-in_err-places-clause-kind c =
    rw (err_is c.from_residual-in_err-places.ensures.1) (unfit_kind c.in_ok-volume.volume _ c.in_err-places.ensures.err)

pub returns-clause-image : goal.returns-clause-image
returns-clause-image c =
    let m = c.in_ok-volume.volume in
    let found = c.in_ok-volume.ensures.found in
    let l = c.in_ok-places.places in
    (image_of m (l.own ++ l.inner), image_is m _ (depth_limit, omega arith, c.args.input.now, found.0, found.1) c.in_ok-places.ensures.layout.0)
