use Rattle.std.proofs.Common.{◌∙◌, subst, sym}
use Rattle.fv_tree.proofs.Laws.{whole_kept}
use Rattle.fv_tree.specs.Words.{IsUnfixed}
use Rattle.fv_command.proofs.unfix_run.unfixed.Goals as goal

pub returns-in_err-unfix-clause-err : goal.returns-in_err-unfix-clause-err
returns-in_err-unfix-clause-err c =
    let to = c.in_ok-verify_unfixed.ensures.ok in
    absurd (c.in_err-unfix.ensures.none to.0 (subst (λ b. IsUnfixed b to.0) (sym (c.deref_mut.ensures.value ∙ c.in_ok-bytes.ensures.items)) to.1.0))

pub returns-clause-ok : goal.returns-clause-ok
returns-clause-ok c =
    let same = c.deref_mut.ensures.value ∙ c.in_ok-bytes.ensures.items in
    let copy = c.from_vec.ensures ∙ whole_kept _ _ _ (c.unfix.auto.bytes ∙ c.deref_mut.ensures.len) in (
      subst (λ o. IsUnfixed c.args.input.now o) (sym copy) (subst (λ b. IsUnfixed b c.unfix.new.bytes) same c.in_ok-unfix.ensures.done),
      c.in_ok-verify_unfixed.ensures.ok.1.1,
    )
