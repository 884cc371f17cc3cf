use Rattle.fv_lines.proofs.depex_notes.put_note.Goals as goal

pub returns : goal.returns
returns g c =
    let name = rw c.text.ensures.text at c.put-2.ensures in
    let number = rw c.from.ensures at c.put_decimal.ensures.text in
    search g.S.Sink.laws.joined depth 8
