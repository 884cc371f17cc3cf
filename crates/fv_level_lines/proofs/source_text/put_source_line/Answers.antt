use Rattle.fv_level_lines.proofs.source_text.put_source_line.Goals as goal

pub returns : goal.returns
returns g c = search g.S.Sink.laws.joined depth 7
