use Rattle.fv_lines.proofs.digest_text.put_sum.Goals as goal

pub returns : goal.returns
returns g c = rw c.in-Ok.ensures.written at (g.S.Sink.laws.joined c.put.ensures c.put-2.ensures)
