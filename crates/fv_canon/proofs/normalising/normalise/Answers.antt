use Rattle.fv_base.proofs.Laws.{IfOk-weaker, IfErr-weaker, err_is}
use Rattle.fv_canon.proofs.ImageLaws.{image_again, image_stays_long}
use Rattle.fv_canon.proofs.HeadlineLaws.{one_reading}
use Rattle.fv_canon.proofs.RejectedInputLaws.{image_fits, not_placed, not_read, not_read_never, refused_unplaced, unread_refused, unfit_kind_of}
use Rattle.fv_canon.proofs.normalising.normalise.Goals as goal

pub returns-in_err-view-clause-err : goal.returns-in_err-view-clause-err
returns-in_err-view-clause-err c = rw (err_is c.from_residual.ensures.1) (not_read c.args.input.now _ c.in_err-view.ensures.rejected)

pub returns-in_err-view-clause-fits : goal.returns-in_err-view-clause-fits
returns-in_err-view-clause-fits c =
    λ image to. rw (err_is c.from_residual.ensures.1) (not_read_never c.args.input.now image _ c.in_err-view.ensures.rejected to)

pub returns-in_err-view-clause-unfit : goal.returns-in_err-view-clause-unfit
returns-in_err-view-clause-unfit c =
    IfErr-weaker c.from_residual.result _ _ (refused_unplaced c.args.input.now) (returns-in_err-view-clause-err c)

pub returns-in_err-view-clause-unread : goal.returns-in_err-view-clause-unread
returns-in_err-view-clause-unread c =
    IfErr-weaker c.from_residual.result _ _ (unread_refused c.args.input.now) (returns-in_err-view-clause-err c)

pub returns-clause-ok : goal.returns-clause-ok
returns-clause-ok c =
    IfOk-weaker c.canonical.result _ _ (λ bytes image. (c.in_ok-view.view, c.in_ok-view.ensures.found, image)) c.canonical.ensures.image

pub returns-clause-again : goal.returns-clause-again
returns-clause-again c = IfOk-weaker c.canonical.result _ _ (image_again c.args.input.now) (returns-clause-ok c)

pub returns-clause-length : goal.returns-clause-length
returns-clause-length c = IfOk-weaker c.canonical.result _ _ (image_stays_long c.args.input.now) (returns-clause-ok c)

pub returns-clause-err : goal.returns-clause-err
returns-clause-err c =
    IfErr-weaker c.canonical.result _ _
    (λ f why. not_placed c.args.input.now c.in_ok-view.view f c.in_ok-view.ensures.found why) c.canonical.ensures.err

pub returns-clause-unfit : goal.returns-clause-unfit
returns-clause-unfit c = IfErr-weaker c.canonical.result _ _ (refused_unplaced c.args.input.now) (returns-clause-err c)

pub returns-clause-unread : goal.returns-clause-unread
returns-clause-unread c = IfErr-weaker c.canonical.result _ _ (unread_refused c.args.input.now) (returns-clause-err c)

pub returns-clause-fits : goal.returns-clause-fits
returns-clause-fits c = λ image to. c.canonical.ensures.fits (image_fits c.args.input.now image c.in_ok-view.view c.in_ok-view.ensures.only to)

pub returns-clause-memory : goal.returns-clause-memory
returns-clause-memory c =
    let d = c.in_ok-view.ensures.found.1 in IfErr-weaker c.canonical.result _ _ (λ f why same. (_, d.extent, d.begins)) c.canonical.ensures.err

pub returns-in_err-view-clause-rejected : goal.returns-in_err-view-clause-rejected
returns-in_err-view-clause-rejected c = λ unfit. (
  rw (err_is c.from_residual.ensures.1) tt,
  IfErr-weaker c.from_residual.result _ _ (λ f why. unfit_kind_of c.args.input.now f why unfit) (returns-in_err-view-clause-err c),
)

pub returns-clause-rejected : goal.returns-clause-rejected
returns-clause-rejected c = λ unfit. (
  IfOk-weaker c.canonical.result _ _ (λ bytes to. unfit.2 (image_fits c.args.input.now bytes unfit.0 (λ m d. one_reading c.args.input.now m unfit.0 d unfit.1) to))
      (returns-clause-ok c),
  IfErr-weaker c.canonical.result _ _ (λ f why. unfit_kind_of c.args.input.now f why unfit) (returns-clause-err c),
)
