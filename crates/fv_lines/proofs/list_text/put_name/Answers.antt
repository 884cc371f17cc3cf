use Rattle.fv_lines.proofs.list_text.put_name.Goals as goal

pub returns-in-Some : goal.returns-in-Some
returns-in-Some g c =
    let guid = rw (c.text.ensures.text, c.name.ensures.name) at c.put-in-Some.ensures in
    rw (← c.ext.ensures, c.in-Some.is) (g.S.Sink.laws.joined c.put.ensures guid)
