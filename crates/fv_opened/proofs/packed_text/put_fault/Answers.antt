use Rattle.fv_opened.proofs.packed_text.put_fault.Goals as goal

pub returns : goal.returns
returns g c =
    let kind = rw c.from.ensures at c.put_decimal.ensures.text in
    search g.S.Sink.laws.joined depth 8
