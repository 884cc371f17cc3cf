use Rattle.std.proofs.Common.{◌≡◌, false, rules}
use Rattle.fv_budget.specs.Words.{ran_out_opening}
use Rattle.fv_opened.proofs.packed_text.put_unopened.Goals as goal

pub returns-else-ran_out_opening : goal.returns-else-ran_out_opening
returns-else-ran_out_opening g c =
    let no : ran_out_opening c.args.fault.kind ≡ false = search rules in
    rw no (g.S.Sink.laws.joined c.put-else-ran_out_opening.ensures (rw c.number.ensures at c.put_fault.ensures))
