use Rattle.fv_command.proofs.opener.run_over.Goals as goal

pub returns-clause-runs : goal.returns-clause-runs
returns-clause-runs g c =
    let runs = rw (c.port_over.ensures.inner, c.port_over.ensures.erred, c.port_over-2.ensures.inner, c.port_over-2.ensures.erred)
    at c.run_plan.ensures.runs in
    (_, _, c.first_source-first.ensures, c.second_source-second.ensures, _, _, runs)
