use Rattle.fv_lines.proofs.scan_text.put_volume.Goals as goal

pub returns : goal.returns
returns g c = search g.S.Sink.laws.joined
