use Rattle.fv_lines.proofs.list_text.put_file_line.Goals as goal

pub returns : goal.returns
returns g c =
    let name = rw (c.text.ensures.text, c.name.ensures.name) at c.put-3.ensures in
    let kind = rw c.kind.ensures at c.put_two_digits.ensures in
    let bits = rw (c.byte.ensures, c.attributes.ensures) at c.put_two_digits-2.ensures in
    let size = rw c.data_len.ensures at c.put_decimal-2.ensures.text in
    search g.S.Sink.laws.joined depth 14
