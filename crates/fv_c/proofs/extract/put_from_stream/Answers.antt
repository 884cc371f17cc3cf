use Rattle.std.proofs.Common.{inr}
use Rattle.fv_base.proofs.Laws.{IfErr-weaker, IfOk-weaker, err_is, or_more}
use Rattle.fv_c.specs.ReadInputs.{IsRead}
use Rattle.fv_c.specs.declared.input.Form.TheVariants.{Stream}
use Rattle.fv_c.proofs.ReadBytes.{begins_with_frame}
use Rattle.fv_c.proofs.SectionRows.{row_frame}
use Rattle.fv_c.proofs.extract.put_from_stream.Goals.{After-deref}
use Rattle.fv_c.proofs.extract.put_from_stream.Goals as goal

-- the bytes that are read
read : (c : After-deref) → IsRead Stream c.args.without_marks c.args.input.now c.deref.result.now
read c = rw c.deref.ensures.value c.in_ok-bytes.ensures.ok

pub returns-in_err-stream-clause-memory : goal.returns-in_err-stream-clause-memory
returns-in_err-stream-clause-memory c =
    let is = read (goal.at.returns-in_err-stream-clause-memory c).After-deref in
    rw (err_is c.from_residual-in_err-stream.ensures.1) (λ want plain. begins_with_frame c.args.without_marks c.args.input.now _ is plain (c.in_err-stream.ensures.memory want))

pub returns-clause-ok : goal.returns-clause-ok
returns-clause-ok c =
    let is = read (goal.at.returns-clause-ok c).After-deref in
    IfOk-weaker c.put_row.result _ _ (λ r row. (_, is, (_, (_, _, c.in_ok-stream.ensures.found, c.of_stream.ensures), row))) c.put_row.ensures.ok

pub returns-clause-err : goal.returns-clause-err
returns-clause-err c =
    let is = read (goal.at.returns-clause-err c).After-deref in
    IfErr-weaker c.put_row.result _ _
    (λ f why. or_more why (λ unfit. (_, is, inr (_, (_, _, c.in_ok-stream.ensures.found, c.of_stream.ensures), unfit)))) c.put_row.ensures.err

pub returns-clause-memory : goal.returns-clause-memory
returns-clause-memory c =
    let is = read (goal.at.returns-clause-memory c).After-deref in
    IfErr-weaker c.put_row.result _ _
    (λ f less want plain. begins_with_frame c.args.without_marks c.args.input.now _ is plain (row_frame _ _ _ c.args.row c.in_ok-stream.ensures.found (rw c.of_stream.ensures at less))) c.put_row.ensures.some
