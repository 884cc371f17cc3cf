use Rattle.fv_survey_lines.proofs.totals.put_count.Goals as goal

pub returns : goal.returns
returns g c = let word = rw c.kind_word.ensures at c.put-2.ensures in search g.S.Sink.laws.joined depth 7
