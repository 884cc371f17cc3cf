use Rattle.fv_command.proofs.image_check_run.put_checked_volume.Goals as goal

pub returns : goal.returns
returns g c = g.S.Sink.laws.joined c.put_volume_place.ensures (g.S.Sink.laws.joined c.put.ensures c.put_outcome.ensures)
