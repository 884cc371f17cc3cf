use Rattle.fv_base.proofs.Laws.{arith, ◌∙◌, codes, refl, sym, err_is}
use Rattle.fv_arguments.proofs.ArgumentReadLemmas.{none_is}
use Rattle.fv_arguments.proofs.RefusalLemmas.{no_place, no_input}
use Rattle.fv_arguments.proofs.TaskLemmas.{by_flag}
use Rattle.fv_arguments.specs.Words.{image_app}
use Rattle.fv_arguments.proofs.options.on_image.Goals as goal

pub returns-in_err-at-clause-normalise : goal.returns-in_err-at-clause-normalise
returns-in_err-at-clause-normalise c whole single =
    rw (err_is c.from_residual.ensures.1) (no_input _ (codes "normalise") refl c.in_err-at.ensures)

pub returns-in_err-at-clause-check : goal.returns-in_err-at-clause-check
returns-in_err-at-clause-check c whole single =
    rw (err_is c.from_residual.ensures.1) (no_input _ (codes "check") refl c.in_err-at.ensures)

pub returns-then-is_some-clause-normalise : goal.returns-then-is_some-clause-normalise
returns-then-is_some-clause-normalise c whole single = λ is rest r right.
    let all = c.is_given-all.ensures image_app rest r in
    let input = c.in_ok-at.ensures image_app rest r in
    no_place (codes "normalise") rest c.in_ok-at.at refl (sym all ∙ c.if-all.true) input.0 (sym c.is_some.ensures ∙ c.if-is_some.true) right

pub returns-then-is_some-clause-check : goal.returns-then-is_some-clause-check
returns-then-is_some-clause-check c whole single = λ is rest r right.
    let all = c.is_given-all.ensures image_app rest r in
    let input = c.in_ok-at.ensures image_app rest r in
    no_place (codes "check") rest c.in_ok-at.at refl (sym all ∙ c.if-all.true) input.0 (sym c.is_some.ensures ∙ c.if-is_some.true) right

pub returns-clause-normalise : goal.returns-clause-normalise
returns-clause-normalise c whole single = λ rest r.
    let all = c.is_given-all.ensures image_app rest r in
    let input = c.in_ok-at.ensures image_app rest r in
    by_flag (codes "normalise") rest c.in_ok-at.at c.in_ok-at.file c.is_given-all.result c.args.whole c.args.single _ c.task_by-task.ensures
    (λ on. rw whole (refl, (sym all ∙ on, grind (arith, none_is), input))) (λ off. rw single (refl, (sym all ∙ off, input)))

pub returns-clause-check : goal.returns-clause-check
returns-clause-check c whole single = λ rest r.
    let all = c.is_given-all.ensures image_app rest r in
    let input = c.in_ok-at.ensures image_app rest r in
    by_flag (codes "check") rest c.in_ok-at.at c.in_ok-at.file c.is_given-all.result c.args.whole c.args.single _ c.task_by-task.ensures
    (λ on. rw whole (refl, (sym all ∙ on, grind (arith, none_is), input))) (λ off. rw single (refl, (sym all ∙ off, input)))
