use Rattle.std.proofs.Common.{ℕ, ap, subst, take}
use Rattle.fv_text.proofs.Laws.{gathered_all}
use Rattle.fv_text.specs.Words.{change}
use Rattle.fv_command.proofs.plan_run.gather_plan.Goals as goal

pub returns : goal.returns
returns g c =
    let plan = c.args.plan.now in
    let put = c.ending_of.ensures plan.command plan.hex (change g.First.Read.remaining c.args.first.now c.put_command-outcome.new.first)
    (change g.Second.Read.remaining c.args.second.now c.put_command-outcome.new.second) c.new-out.result c.put_command-outcome.ensures in
    let taken = gathered_all g.S.Sink.laws _ _ _ _ put.0 _ (ap (λ (n : ℕ). take n c.new-out.result.room) c.new-out.ensures.filled)
    put.2 c.finish.ensures in
    (put.0, put.1, subst (λ (s : g.row.S.Denot). g.S.Sink.takes s put.0 c.finish.result) c.new-out.ensures.below taken)
