use Rattle.fv_survey_lines.proofs.row_text.put_type.Goals as goal

pub returns : goal.returns
returns g c = search g.S.Sink.laws.joined
