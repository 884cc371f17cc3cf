use Rattle.std.proofs.lemmas.Grind.{common_steps}
use Rattle.std.proofs.Common.{◌∙◌, List, ℕ, ap, arith, length, Err, IfErr, Ok, OnOk, Result}
use Rattle.fv_base.specs.declared.fault.Fault.{Fault}
use Rattle.fv_tree.specs.Words.{IsUnfixed}
use Rattle.fv_c.proofs.unfix.put_unfixed.Goals as goal

-- if the marks in the bytes can be taken away, the call has taken them away
unfixed : {A : Type 0} (r : Result A Fault) (b new o : List ℕ) → IsUnfixed b o → OnOk r (IsUnfixed b new)
    → IfErr r (λ _. (x : List ℕ) → IsUnfixed b x → ⊥) → IsUnfixed b new
unfixed (Ok x) b new o to done none = done
unfixed (Err f) b new o to done none = absurd (none o to)

pub returns : goal.returns
returns c =
    let copied = c.copy_from_slice.ensures.after in
    let to = rw (← copied) at c.requires.volume.1.0 in
    let made = unfixed c.unfix-done.result _ _ _ to c.unfix-done.ensures.done c.unfix-done.ensures.none in
    let long = c.unfix-done.auto.bytes ∙ ap length copied in
    (c.unfix-done.new.bytes, (rw copied at made, c.requires.volume.1.1), long, grind (arith, common_steps))
