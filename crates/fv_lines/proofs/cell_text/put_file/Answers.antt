use Rattle.fv_lines.proofs.cell_text.put_file.Goals as goal

pub returns : goal.returns
returns g c =
    let place = rw c.up_to_8.ensures at c.put_span.ensures in
    let name = rw c.text.ensures.text at c.put-2.ensures in
    let bits = rw c.byte.ensures at c.put_two_digits-2.ensures in
    search g.S.Sink.laws.joined depth 10
