use Rattle.fv_arguments.proofs.options.decimal.Goals as goal

pub returns-in-Ok : goal.returns-in-Ok
returns-in-Ok c = let h = c.in-Ok.ensures.value.0 in (h.0.0, h.1, rw h.1 h.0.1)

pub returns-in-Err : goal.returns-in-Err
returns-in-Err c = λ words n h. c.in-Err.ensures.value.0 (h.0, rw h.1 at h.2)
