use Rattle.std.proofs.lemmas.Grind.{common_steps}
use Rattle.std.proofs.Common.{arith, refl, ◌∙◌, sym, reverse}
use Rattle.fv_base.proofs.Laws.{drop_more, err_is}
use Rattle.fv_depex.proofs.TruthLemmas.{run_step, run_none, run_end}
use Rattle.fv_depex.proofs.truth.evaluate_ops.Goals as goal

pub loop-op-preserved : goal.loop-op-preserved
loop-op-preserved c = grind (arith, common_steps, run_step, drop_more)

pub returns-clause-value : goal.returns-clause-value
returns-clause-value c = c.pop.ensures ∙ sym (run_end c.args.installed.now c.args.ops.now (reverse c.loop-op.stack.items) c.loop-op.op-index
    c.loop-op-test.false c.loop-op.invariant)

pub loop-op-init : goal.loop-op-init
loop-op-init c = rw c.new-stack.ensures.items refl

pub loop-op-smaller : goal.loop-op-smaller
loop-op-smaller c = omega arith

pub returns-in_err-evaluate_op-clause-err : goal.returns-in_err-evaluate_op-clause-err
returns-in_err-evaluate_op-clause-err c = rw (err_is c.from_residual.ensures.1) refl

pub returns-then-not-branch-clause-value : goal.returns-then-not-branch-clause-value
returns-then-not-branch-clause-value c = grind (arith, common_steps, run_none, drop_more)
