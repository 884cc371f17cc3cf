use Rattle.fv_base.proofs.Laws.{◌∙◌, sym, ap, take, drop, length, take-append-drop, length-take-le, err_is}
use Rattle.fv_hob.proofs.HobListLemmas.{only_list}
use Rattle.fv_hob.proofs.HobReadLemmas.{none_after}
use Rattle.fv_hob.proofs.read.read_hobs.Goals as goal

pub returns-in_err-hobs-clause-none : goal.returns-in_err-hobs-clause-none
returns-in_err-hobs-clause-none c =
    rw (err_is c.from_residual.ensures.1)
    (λ memory all n is. none_after c.args.bytes.now _ all (take n c.args.bytes.now) (drop n c.args.bytes.now)
    (c.in_err-hobs.ensures.first memory) is (sym (take-append-drop n c.args.bytes.now)))

pub returns-clause-only : goal.returns-clause-only
returns-clause-only c = λ all n within is.
    let b = c.args.bytes.now in
    let at = c.in_ok-hobs.at in
    let found = c.in_ok-hobs.ensures.found in
    let one = only_list c.in_ok-hobs.hobs.items all (take at b) (take n b) (drop at b) (drop n b) found.1 is
    (take-append-drop at b ∙ sym (take-append-drop n b)) in
    (one.0 ∙ sym c.from_vec.ensures, sym (length-take-le n b within) ∙ ap length one.1 ∙ length-take-le at b found.0)
