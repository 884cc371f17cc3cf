use Rattle.fv_lines.proofs.scan_text.put_volume_place.Goals as goal

pub returns : goal.returns
returns g c = search g.S.Sink.laws.joined
