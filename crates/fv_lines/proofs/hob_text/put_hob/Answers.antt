use Rattle.fv_lines.proofs.hob_text.put_hob.Goals as goal

pub returns : goal.returns
returns g c =
    let number = rw c.from.ensures at c.put_decimal.ensures.text in
    let word = rw c.as_bytes.ensures.value at c.put-3.ensures in
    search g.S.Sink.laws.joined depth 7
