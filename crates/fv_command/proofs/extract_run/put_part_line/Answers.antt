use Rattle.fv_command.proofs.extract_run.put_part_line.Goals as goal

pub returns-in-Put-clause-line : goal.returns-in-Put-clause-line
returns-in-Put-clause-line g c = rw c.in-Put.is (g.S.Sink.laws.none c.args.out.now)
