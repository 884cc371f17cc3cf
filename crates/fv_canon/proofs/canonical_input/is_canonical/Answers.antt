use Rattle.fv_base.proofs.Laws.{IfOk-weaker, IfErr-weaker, err_is, inl}
use Rattle.fv_canon.proofs.canonical_input.is_canonical.Goals as goal

pub returns-in_err-view-clause-memory : goal.returns-in_err-view-clause-memory
returns-in_err-view-clause-memory c = rw (err_is c.from_residual.ensures.1) c.in_err-view.ensures.memory

pub returns-clause-ok : goal.returns-clause-ok
returns-clause-ok c =
    IfOk-weaker c.is_canonical_image.result _ _ (λ t same. (c.in_ok-view.view, c.in_ok-view.ensures.found, same))
    c.is_canonical_image.ensures.ok

pub returns-clause-err : goal.returns-clause-err
returns-clause-err c = IfErr-weaker c.is_canonical_image.result _ _ (λ f want. inl want) c.is_canonical_image.ensures.err

pub returns-clause-memory : goal.returns-clause-memory
returns-clause-memory c =
    IfErr-weaker c.is_canonical_image.result _ _ (λ f why want. (_, c.in_ok-view.ensures.found.1.extent, c.in_ok-view.ensures.found.1.begins))
    c.is_canonical_image.ensures.err
