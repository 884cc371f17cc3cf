use Rattle.fv_command.proofs.fault_text.put_fault.Goals as goal

pub returns : goal.returns
returns g c =
    let number = rw c.from.ensures at c.put_decimal.ensures.text in
    search g.S.Sink.laws.joined depth 7
