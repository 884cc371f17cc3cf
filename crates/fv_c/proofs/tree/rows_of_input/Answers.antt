use Rattle.fv_base.proofs.Laws.{IfOk-weaker, err_is}
use Rattle.fv_c.specs.ReadInputs.{IsRead}
use Rattle.fv_c.specs.declared.input.Form.TheVariants.{Volume}
use Rattle.fv_c.proofs.ReadBytes.{begins_with_header}
use Rattle.fv_c.proofs.tree.rows_of_input.Goals.{After-deref-bytes}
use Rattle.fv_c.proofs.tree.rows_of_input.Goals as goal

-- the bytes that are read
read : (c : After-deref-bytes) → IsRead Volume c.args.without_marks c.args.input.now c.deref-bytes.result.now
read c = rw c.deref-bytes.ensures.value c.in_ok-copied.ensures.ok

pub returns-in_err-volume-clause-memory : goal.returns-in_err-volume-clause-memory
returns-in_err-volume-clause-memory c =
    let is = read (goal.at.returns-in_err-volume-clause-memory c).After-deref-bytes in
    rw (err_is c.from_residual-in_err-volume.ensures.1)
    (λ want plain. begins_with_header c.args.without_marks c.args.input.now _ is plain (c.in_err-volume.ensures.memory want))

pub returns-clause-ok : goal.returns-clause-ok
returns-clause-ok c =
    let is = read (goal.at.returns-clause-ok c).After-deref-bytes in
    IfOk-weaker c.rows_of.result _ _ (λ v has. (c.deref-bytes.result.now, is, has)) c.rows_of.ensures.ok
