use Rattle.fv_survey_lines.proofs.row_text.put_row.Goals as goal

pub returns : goal.returns
returns g c =
    let word = rw c.kind_word.ensures at c.put.ensures in
    search g.S.Sink.laws.joined depth 12
