use Rattle.fv_c.proofs.header.fvp_header_read.Goals as goal

pub returns-in-Err-clause-first : goal.returns-in-Err-clause-first
returns-in-Err-clause-first c = λ _. (c.in-Err.f, c.in-Err.ensures.first, c.set_fault.ensures.number, c.set_fault.ensures.fault)
