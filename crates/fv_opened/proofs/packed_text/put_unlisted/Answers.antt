use Rattle.std.proofs.Common.{◌≡◌, false, rules}
use Rattle.fv_budget.specs.Words.{ran_out_reading}
use Rattle.fv_opened.proofs.packed_text.put_unlisted.Goals as goal

pub returns-else-ran_out_reading : goal.returns-else-ran_out_reading
returns-else-ran_out_reading g c =
    let no : ran_out_reading c.args.fault.kind ≡ false = search rules in
    rw no (g.S.Sink.laws.joined c.put-else-ran_out_reading.ensures (rw c.number.ensures at c.put_fault.ensures))
