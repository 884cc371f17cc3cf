use Rattle.fv_base.proofs.Laws.{inr, or_more, refl, err_is}
use Rattle.fv_canon.proofs.Laws.{layout_covers}
use Rattle.fv_command.proofs.MemoryLaws.{begun_header, with_cause}
use Rattle.fv_command.proofs.task_run.list_sums.Goals as goal

pub returns-in_err-places : goal.returns-in_err-places
returns-in_err-places g c =
    let header = begun_header _ _ c.in_ok-volume.ensures.ok in
    let unfit = or_more c.in_err-places.ensures.err (λ unfit. inr (_, c.in_ok-volume.ensures.ok, unfit)) in
    let why = with_cause unfit (λ _. header) in
    λ hex. rw (err_is c.from_residual-in_err-places.ensures.1) (why, refl)

pub put_list_with-requires : goal.put_list_with-requires
put_list_with-requires g c =
    layout_covers c.in_ok-volume.volume c.starts.result.now c.new.result c.new.ensures (rw c.starts.ensures c.in_ok-places.ensures.layout.0)

pub returns : goal.returns
returns g c =
    let put = c.put_list_with.ensures in λ hex. (put.0, (c.in_ok-volume.volume, c.in_ok-volume.ensures.ok, put.1), put.2)
