use Rattle.fv_level_lines.proofs.level_text.put_counts.Goals as goal

pub returns : goal.returns
returns g c =
    let opened = rw (c.saturating_sub.ensures, c.count.ensures) at c.put_decimal.ensures.text in
    let closed = rw c.closed.ensures at c.put_decimal-2.ensures.text in
    search g.S.Sink.laws.joined depth 8
