use Rattle.fv_level_lines.proofs.closed_text.put_closed_line.Goals as goal

pub returns : goal.returns
returns g c = search g.S.Sink.laws.joined depth 5
