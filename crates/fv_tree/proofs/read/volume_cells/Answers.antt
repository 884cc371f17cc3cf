use Rattle.fv_base.proofs.Laws.{arith, ap, length-take-le, err_is}
use Rattle.fv_base.specs.declared.fault.Fault.{Fault}
use Rattle.fv_head.proofs.Laws.{fault_known, first_lies}
use Rattle.fv_tree.proofs.VolumeCellLaws.{bad_cell, bad_header}
use Rattle.fv_tree.proofs.read.volume_cells.Goals as goal

pub returns-in_err-extent-clause-err : goal.returns-in_err-extent-clause-err
returns-in_err-extent-clause-err c = rw (err_is c.from_residual.ensures.1) (λ other. bad_header c.args.bytes.now _ c.in_err-extent.ensures.first)

pub returns-in_err-extent-clause-memory : goal.returns-in_err-extent-clause-memory
returns-in_err-extent-clause-memory c =
    rw (err_is c.from_residual.ensures.1)
    (λ want. absurd (fault_known c.args.bytes.now _ c.in_err-extent.ensures.first (ap (λ (f : Fault). f.kind) want)))

pub cells-requires : goal.cells-requires
cells-requires c =
    let found = c.in_ok-extent.ensures.found in
    omega (arith, first_lies c.args.bytes.now _ _ found.1, length-take-le _ c.args.bytes.now found.1.is_within)

pub returns-in_err-list-clause-err : goal.returns-in_err-list-clause-err
returns-in_err-list-clause-err c =
    let found = c.in_ok-extent.ensures.found in
    rw (err_is c.from_residual-in_err-list.ensures.1)
    (λ other. bad_cell c.args.bytes.now found.0 c.in_ok-extent.extent c.in_err-list.field-0.0 found.1 (c.in_err-list.ensures.first other))

pub returns-in_err-list-clause-memory : goal.returns-in_err-list-clause-memory
returns-in_err-list-clause-memory c =
    let found = c.in_ok-extent.ensures.found in
    rw (err_is c.from_residual-in_err-list.ensures.1) (λ want. (found.0, c.in_ok-extent.extent, found.1))

pub returns-clause-found : goal.returns-clause-found
returns-clause-found c =
    let found = c.in_ok-extent.ensures.found in record { head = found.0; begins = found.1; tiles = c.in_ok-list.ensures.found }
