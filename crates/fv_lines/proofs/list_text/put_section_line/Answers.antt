use Rattle.fv_lines.proofs.list_text.put_section_line.Goals as goal

pub returns : goal.returns
returns g c =
    let (shown, is, put) = c.put_section_body.ensures in (shown, is, search g.S.Sink.laws.joined depth 6)
