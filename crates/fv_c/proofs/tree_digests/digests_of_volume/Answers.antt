use Rattle.std.proofs.Common.{refl}
use Rattle.fv_base.proofs.Laws.{err_is, or_more, want_known}
use Rattle.fv_c.specs.ReadInputs.{IsRead}
use Rattle.fv_c.specs.declared.input.Form.TheVariants.{Volume}
use Rattle.fv_c.proofs.MemoryLaws.{header_of}
use Rattle.fv_c.proofs.ReadBytes.{begins_with_header}
use Rattle.fv_c.proofs.tree_digests.digests_of_volume.Goals.{After-deref}
use Rattle.fv_c.proofs.tree_digests.digests_of_volume.Goals as goal

-- the bytes that are read
read : (c : After-deref) → IsRead Volume c.args.without_marks c.args.input.now c.deref.result.now
read c = rw c.deref.ensures.value c.in_ok-bytes.ensures.ok

pub returns-in_err-laid-clause-fits : goal.returns-in_err-laid-clause-fits
returns-in_err-laid-clause-fits c =
    let is = read (goal.at.returns-in_err-laid-clause-fits c).After-deref in
    rw (err_is c.from_residual-in_err-laid.ensures.1) (or_more (want_known _) (λ ne. (_, is, λ image to. ne (c.in_err-laid.ensures.fits image to))))

pub returns-in_err-laid-clause-memory : goal.returns-in_err-laid-clause-memory
returns-in_err-laid-clause-memory c =
    let is = read (goal.at.returns-in_err-laid-clause-memory c).After-deref in
    rw (err_is c.from_residual-in_err-laid.ensures.1) (λ want plain. begins_with_header c.args.without_marks c.args.input.now _ is plain (c.in_err-laid.ensures.memory want))

pub returns-in_err-digests-clause-memory : goal.returns-in_err-digests-clause-memory
returns-in_err-digests-clause-memory c =
    let is = read (goal.at.returns-in_err-digests-clause-memory c).After-deref in
    rw (err_is c.from_residual-in_err-digests.ensures.1)
    (λ want plain. begins_with_header c.args.without_marks c.args.input.now _ is plain (header_of _ _ c.in_ok-laid.ensures.found))

pub returns-clause-ok : goal.returns-clause-ok
returns-clause-ok c =
    let is = read (goal.at.returns-clause-ok c).After-deref in
    (_, is, (_, (c.in_ok-laid.laid, c.in_ok-laid.ensures.found, refl), rw c.volume.ensures at c.in_ok-digests.ensures))
