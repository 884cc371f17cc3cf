use Rattle.fv_tool.proofs.reject_arguments.Goals as goal

pub returns-in-Words-clause-ends : goal.returns-in-Words-clause-ends
returns-in-Words-clause-ends g c = rw c.in-Words.is c.end_with_line.ensures.ends
