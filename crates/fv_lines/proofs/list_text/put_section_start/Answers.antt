use Rattle.fv_lines.proofs.list_text.put_section_start.Goals as goal

pub returns : goal.returns
returns g c =
    let kind = rw c.kind.ensures.kind at c.put_two_digits.ensures in
    let form = rw (c.form_words.ensures, c.extended.ensures) at c.put-3.ensures in
    let size = rw c.body_len.ensures at c.put_decimal-2.ensures.text in
    search g.S.Sink.laws.joined depth 11
