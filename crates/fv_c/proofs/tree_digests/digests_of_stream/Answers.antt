use Rattle.std.proofs.Common.{inr, refl}
use Rattle.fv_base.proofs.Laws.{err_is, or_more, want_known}
use Rattle.fv_c.specs.ReadInputs.{IsRead}
use Rattle.fv_c.specs.declared.input.Form.TheVariants.{Stream}
use Rattle.fv_c.proofs.ReadBytes.{begins_with_frame}
use Rattle.fv_c.proofs.SectionRows.{has_frame, none_digests}
use Rattle.fv_c.proofs.tree_digests.digests_of_stream.Goals.{After-deref}
use Rattle.fv_c.proofs.tree_digests.digests_of_stream.Goals as goal

-- the bytes that are read
read : (c : After-deref) → IsRead Stream c.args.without_marks c.args.input.now c.deref.result.now
read c = rw c.deref.ensures.value c.in_ok-bytes.ensures.ok

pub returns-in_err-stream-clause-fits : goal.returns-in_err-stream-clause-fits
returns-in_err-stream-clause-fits c =
    let is = read (goal.at.returns-in_err-stream-clause-fits c).After-deref in
    rw (err_is c.from_residual-in_err-stream.ensures.1)
    (or_more c.in_err-stream.ensures.rejected (λ not. (_, is, λ ss tail accepted fit. not.none ss tail accepted)))

pub returns-in_err-stream-clause-memory : goal.returns-in_err-stream-clause-memory
returns-in_err-stream-clause-memory c =
    let is = read (goal.at.returns-in_err-stream-clause-memory c).After-deref in
    rw (err_is c.from_residual-in_err-stream.ensures.1) (λ want plain. begins_with_frame c.args.without_marks c.args.input.now _ is plain (c.in_err-stream.ensures.memory want))

pub returns-then-is_empty-clause-ok : goal.returns-then-is_empty-clause-ok
returns-then-is_empty-clause-ok c =
    let is = read (goal.at.returns-then-is_empty-clause-ok c).After-deref in
    rw c.new.ensures.items (_, is, none_digests _ _ _ c.in_ok-stream.ensures.found (c.is_empty.ensures.none c.if-is_empty.true))

pub returns-in_err-starts-clause-err : goal.returns-in_err-starts-clause-err
returns-in_err-starts-clause-err c =
    let is = read (goal.at.returns-in_err-starts-clause-err c).After-deref in
    rw (err_is c.from_residual-in_err-starts.ensures.1)
    (or_more c.in_err-starts.ensures.err (λ unfit. (_, is, inr (_, _, c.in_ok-stream.ensures.found, unfit))))

pub returns-in_err-starts-clause-fits : goal.returns-in_err-starts-clause-fits
returns-in_err-starts-clause-fits c =
    let is = read (goal.at.returns-in_err-starts-clause-fits c).After-deref in
    rw (err_is c.from_residual-in_err-starts.ensures.1)
    (or_more (want_known _) (λ ne. (
      _,
      is,
      λ ss tail accepted fit.
          ne (c.in_err-starts.ensures.fits (rw (c.in_ok-stream.ensures.only ss tail accepted).0 at fit)),
    )))

pub returns-in_err-starts-clause-memory : goal.returns-in_err-starts-clause-memory
returns-in_err-starts-clause-memory c =
    let is = read (goal.at.returns-in_err-starts-clause-memory c).After-deref in
    rw (err_is c.from_residual-in_err-starts.ensures.1)
    (λ want plain. begins_with_frame c.args.without_marks c.args.input.now _ is plain (has_frame _ _ _ c.in_ok-stream.ensures.found (c.is_empty.ensures.some c.if-is_empty.false)))

pub returns-in_err-digests-clause-memory : goal.returns-in_err-digests-clause-memory
returns-in_err-digests-clause-memory c =
    let is = read (goal.at.returns-in_err-digests-clause-memory c).After-deref in
    rw (err_is c.from_residual-in_err-digests.ensures.1)
    (λ want plain. begins_with_frame c.args.without_marks c.args.input.now _ is plain (has_frame _ _ _ c.in_ok-stream.ensures.found (c.is_empty.ensures.some c.if-is_empty.false)))

pub returns-clause-ok : goal.returns-clause-ok
returns-clause-ok c =
    let is = read (goal.at.returns-clause-ok c).After-deref in
    (_, is, (_, (c.in_ok-stream.stream.0, c.in_ok-stream.stream.1, c.in_ok-stream.ensures.found, refl), c.in_ok-digests.ensures))
