use Rattle.fv_base.proofs.Laws.{err_is, or_more, want_known}
use Rattle.fv_tree.proofs.Laws.{ran_out}
use Rattle.fv_command.proofs.task_run.volume_at_start.Goals as goal

pub returns-in_err-volume-clause-err : goal.returns-in_err-volume-clause-err
returns-in_err-volume-clause-err c =
    let e = c.in_err-volume.ensures in
    rw (err_is c.from_residual.ensures.1)
    (ran_out _ _ (or_more (want_known _) (λ other. record { none = λ m b. e.none other b.0 m b.1 b.2.1; first = e.first other })) e.memory)
