use Rattle.fv_base.proofs.Laws.{ap, length-take-le, err_is}
use Rattle.fv_base.specs.declared.fault.Fault.{Fault}
use Rattle.fv_head.proofs.Laws.{fault_known, first_lies}
use Rattle.fv_tree.proofs.Laws.{bad_cell}
use Rattle.std.proofs.Common.{rules}
use Rattle.fv_c.proofs.cells.cell_rows.Goals as goal

pub returns-in_err-extent-clause-memory : goal.returns-in_err-extent-clause-memory
returns-in_err-extent-clause-memory c =
    rw (err_is c.from_residual.ensures.1)
    (λ want. absurd (fault_known _ _ c.in_err-extent.ensures.first (ap (λ (f : Fault). f.kind) want)))

pub rows_in_body-requires : goal.rows_in_body-requires
rows_in_body-requires c =
    let (h, begins) = c.in_ok-extent.ensures.found in
    let first = first_lies _ h c.in_ok-extent.extent begins in
    let long = length-take-le c.in_ok-extent.extent.length c.args.bytes.now begins.is_within in
    search rules

pub returns-in_err-rows-clause-err : goal.returns-in_err-rows-clause-err
returns-in_err-rows-clause-err c =
    rw (err_is c.from_residual-in_err-rows.ensures.1)
    (λ other. bad_cell _ _ c.in_ok-extent.extent _ c.in_ok-extent.ensures.found.1 (c.in_err-rows.ensures.first other))

pub returns-in_err-rows-clause-memory : goal.returns-in_err-rows-clause-memory
returns-in_err-rows-clause-memory c =
    let found = c.in_ok-extent.ensures.found in
    rw (err_is c.from_residual-in_err-rows.ensures.1) (λ want. (found.0, c.in_ok-extent.extent, found.1))
