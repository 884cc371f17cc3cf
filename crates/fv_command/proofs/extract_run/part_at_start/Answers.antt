use Rattle.fv_base.proofs.Laws.{inr, or_more}
use Rattle.std.proofs.lemmas.Result.{IfErr-weaker, IfOk-weaker}
use Rattle.fv_command.proofs.MemoryLaws.{begun_header, with_cause}
use Rattle.fv_command.proofs.extract_run.part_at_start.Goals as goal

pub returns-clause-ok : goal.returns-clause-ok
returns-clause-ok c = IfOk-weaker c.extract.result _ _ (λ x is. (_, c.in_ok-volume.ensures.ok, is)) c.extract.ensures.ok

pub returns-clause-err : goal.returns-clause-err
returns-clause-err c =
    let header = begun_header _ _ c.in_ok-volume.ensures.ok in
    IfErr-weaker c.extract.result _ _
    (λ f why. with_cause (or_more why (λ stops. inr (_, c.in_ok-volume.ensures.ok, stops))) (λ _. header)) c.extract.ensures.err
