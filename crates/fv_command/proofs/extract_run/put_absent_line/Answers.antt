use Rattle.fv_base.proofs.Laws.{ne_eqb}
use Rattle.fv_command.proofs.extract_run.put_absent_line.Goals as goal

pub returns : goal.returns
returns g c =
    rw (ne_eqb c.args.unread 0 c.if-unread-eq0.false)
    (g.S.Sink.laws.joined c.put-2.ensures (g.S.Sink.laws.joined c.put_decimal.ensures.text c.put-3.ensures))
