use Rattle.std.proofs.Common.{◌≡◌, ◌∙◌, rules, inl, inr, sym}
use Rattle.fv_base.proofs.Laws.{Keeps-refl, IfErr-weaker, err_is, on_ok_weaker}
use Rattle.fv_tree.proofs.Laws.{ran_out}
use Rattle.fv_base.specs.declared.fault.FaultKind.TheVariants as kinds
use Rattle.fv_canon.proofs.normalising.run_normalise.Goals as goal

pub returns-in_err-input-clause-err : goal.returns-in_err-input-clause-err
returns-in_err-input-clause-err g c = search rules

pub returns-in_err-laid-clause-err : goal.returns-in_err-laid-clause-err
returns-in_err-laid-clause-err g c =
    let front = rw c.deref.ensures.value at c.in_err-laid.ensures.memory in
    rw (err_is c.from_residual-in_err-laid.ensures.1)
    (inr (_, c.in_ok-input.ensures.ok, inl (Keeps-refl _, ran_out _ _ (rw c.deref.ensures.value at c.in_err-laid.ensures.err) front)))

pub returns-clause-ok : goal.returns-clause-ok
returns-clause-ok g c =
    let found = rw (sym c.volume.ensures, c.deref.ensures.value) at c.in_ok-laid.ensures.found in
    on_ok_weaker c.write_canonical.result (λ p. (_, p.0, c.in_ok-input.ensures.ok, (c.volume.result.now, found, p.1), p.2))
    c.write_canonical.ensures.ok

pub returns-clause-err : goal.returns-clause-err
returns-clause-err g c =
    let found = rw (sym c.volume.ensures, c.deref.ensures.value) at c.in_ok-laid.ensures.found in
    IfErr-weaker c.write_canonical.result _ _
    (λ f p. inr (_, c.in_ok-input.ensures.ok, inr (p.0, (c.volume.result.now, found, p.1), p.2))) c.write_canonical.ensures.err

pub returns-clause-reader_erred : goal.returns-clause-reader_erred
returns-clause-reader_erred g c _ =
    IfErr-weaker c.write_canonical.result _ _ (λ f stops same. let clash : kinds.WriteFault ≡ kinds.ReadFault = sym stops.2.kind ∙ same in cc)
    c.write_canonical.ensures.err

pub returns-clause-writer_erred : goal.returns-clause-writer_erred
returns-clause-writer_erred g c =
    IfErr-weaker c.write_canonical.result _ _ (λ f erred same. erred) c.write_canonical.ensures.erred
