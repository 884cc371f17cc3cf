use Rattle.fv_lines.proofs.hob_text.put_consumed.Goals as goal

pub returns : goal.returns
returns g c = search g.S.Sink.laws.joined
