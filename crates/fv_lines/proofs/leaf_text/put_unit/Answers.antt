use Rattle.fv_lines.proofs.leaf_text.put_unit.Goals as goal

pub returns-else-is_plain : goal.returns-else-is_plain
returns-else-is_plain g c =
    rw (← c.is_plain.ensures, c.if-is_plain.false) (g.S.Sink.laws.joined c.put-else-is_plain.ensures c.put_four_digits.ensures)
