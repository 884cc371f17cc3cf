use Rattle.fv_survey_lines.proofs.row_text.put_volume.Goals as goal

pub returns : goal.returns
returns g c =
    let name = rw c.text.ensures.text at c.put-2.ensures in
    let found = rw c.found_word.ensures at c.put-3.ensures in
    search g.S.Sink.laws.joined depth 6
