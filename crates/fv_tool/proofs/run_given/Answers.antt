use Rattle.fv_tool.proofs.StatusLemmas.{never_wrong}
use Rattle.fv_tool.proofs.run_given.Goals as goal

pub returns-in-Ok-plan-clause-wrong : goal.returns-in-Ok-plan-clause-wrong
returns-in-Ok-plan-clause-wrong g c = λ e.
    absurd (never_wrong g.O.Standard.Read.remaining g.O.File.Read.remaining (g.O.Opener.opens c.args.opener.now)
    (g.O.Opener.is_standard c.args.opener.now) _ c.run_over.result _ c.run_over.ensures.runs e)
