use Rattle.fv_survey_lines.proofs.totals.put_totals.Goals as goal

pub returns : goal.returns
returns g c = search g.S.Sink.laws.joined depth 12
