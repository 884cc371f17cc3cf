use Rattle.std.proofs.Common.{◌∙◌}
use Rattle.fv_c.proofs.depex.fvp_depex_evaluate.Goals as goal

pub returns-in-Err-clause-err : goal.returns-in-Err-clause-err
returns-in-Err-clause-err c = λ _.
    let e = c.in-Err.ensures in
    let set = c.set_fault_at.ensures in
    let is = c.depex_result.ensures in
    rw (← c.phase_by_number.ensures) (c.in-Err.f, e.err, e.memory, set.number ∙ is, set.fault _ is)
