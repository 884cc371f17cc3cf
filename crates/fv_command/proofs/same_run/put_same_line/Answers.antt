use Rattle.fv_command.proofs.same_run.put_same_line.Goals as goal

pub returns-in-Some : goal.returns-in-Some
returns-in-Some g c = rw c.in-Some.is (search g.S.Sink.laws.joined depth 8)
