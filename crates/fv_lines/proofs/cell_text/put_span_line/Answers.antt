use Rattle.fv_lines.proofs.cell_text.put_span_line.Goals as goal

pub returns : goal.returns
returns g c = search g.S.Sink.laws.joined
