use Rattle.fv_base.proofs.Laws.{IfErr-weaker, err_is}
use Rattle.fv_depex.proofs.Laws.{spells_first}
use Rattle.fv_c.proofs.depex.evaluated.Goals as goal

pub returns-in_err-guids-clause-memory : goal.returns-in_err-guids-clause-memory
returns-in_err-guids-clause-memory c =
    rw (err_is c.from_residual-in_err-guids.ensures.1) (λ _. spells_first c.args.phase _ _ _ c.in_ok-depex.ensures.found.1)

pub returns-clause-memory : goal.returns-clause-memory
returns-clause-memory c =
    IfErr-weaker c.evaluate.result _ _ (λ f _ _. spells_first c.args.phase _ _ _ c.in_ok-depex.ensures.found.1) c.evaluate.ensures.err
