use Rattle.std.proofs.Common.{inr}
use Rattle.fv_base.proofs.Laws.{IfErr-weaker, IfOk-weaker, err_is, or_more}
use Rattle.fv_c.specs.ReadInputs.{IsRead}
use Rattle.fv_c.specs.declared.input.Form.TheVariants.{Volume}
use Rattle.fv_c.proofs.MemoryLaws.{header_of}
use Rattle.fv_c.proofs.ReadBytes.{begins_with_header}
use Rattle.fv_c.proofs.extract.put_from_volume.Goals.{After-deref}
use Rattle.fv_c.proofs.extract.put_from_volume.Goals as goal

-- the bytes that are read
read : (c : After-deref) → IsRead Volume c.args.without_marks c.args.input.now c.deref.result.now
read c = rw c.deref.ensures.value c.in_ok-bytes.ensures.ok

pub returns-in_err-volume-clause-memory : goal.returns-in_err-volume-clause-memory
returns-in_err-volume-clause-memory c =
    let is = read (goal.at.returns-in_err-volume-clause-memory c).After-deref in
    rw (err_is c.from_residual-in_err-volume.ensures.1) (λ want plain. begins_with_header c.args.without_marks c.args.input.now _ is plain (c.in_err-volume.ensures.memory want))

pub returns-clause-ok : goal.returns-clause-ok
returns-clause-ok c =
    let is = read (goal.at.returns-clause-ok c).After-deref in
    IfOk-weaker c.put_row.result _ _ (λ r row. (_, is, (_, (_, c.in_ok-volume.ensures.found, c.of.ensures), row))) c.put_row.ensures.ok

pub returns-clause-err : goal.returns-clause-err
returns-clause-err c =
    let is = read (goal.at.returns-clause-err c).After-deref in
    IfErr-weaker c.put_row.result _ _
    (λ f why. or_more why (λ unfit. (_, is, inr (_, (_, c.in_ok-volume.ensures.found, c.of.ensures), unfit)))) c.put_row.ensures.err

pub returns-clause-memory : goal.returns-clause-memory
returns-clause-memory c =
    let is = read (goal.at.returns-clause-memory c).After-deref in
    IfErr-weaker c.put_row.result _ _
    (λ f why want plain. begins_with_header c.args.without_marks c.args.input.now _ is plain (header_of _ _ c.in_ok-volume.ensures.found)) c.put_row.ensures.err
