use Rattle.fv_command.proofs.plan_run.put_command.Goals as goal

pub returns-in-Hobs : goal.returns-in-Hobs
returns-in-Hobs g c = rw c.in-Hobs.is (rw c.base_of.ensures at c.put_hob_list.ensures)
