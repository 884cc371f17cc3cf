use Rattle.fv_command.proofs.task_run.list_opened.Goals as goal

pub returns : goal.returns
returns g c =
    let put = c.put_opened_list-ran_out.ensures in λ hex. (
      put.0,
      (c.in_ok-volume.volume, c.put_opened_list-ran_out.result, c.in_ok-volume.ensures.ok, put.1, c.opened_status.ensures),
      put.2,
    )
