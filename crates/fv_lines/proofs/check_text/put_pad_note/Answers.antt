use Rattle.fv_base.proofs.Laws.{not_equal}
use Rattle.fv_lines.proofs.check_text.put_pad_note.Goals as goal

pub returns : goal.returns
returns g c =
    let laws = g.S.Sink.laws in
    rw (not_equal c.args.count 0 c.if-count-eq0.false) (laws.joined c.put.ensures
    (laws.joined c.put_decimal.ensures.text (laws.joined c.put-2.ensures (laws.joined c.put_decimal-2.ensures.text c.put-3.ensures))))
