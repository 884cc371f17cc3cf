use Rattle.fv_base.proofs.Laws.{IfErr-weaker}
use Rattle.fv_depex.proofs.TruthLemmas.{value_truth, value_order, one_tree, pushing_tree}
use Rattle.fv_depex.proofs.truth.evaluate.Goals as goal

pub returns-clause-truth : goal.returns-clause-truth
returns-clause-truth c = value_truth c.args.installed.now c.args.depex.now.phase c.args.depex.now.ops c.evaluate_ops.result
    (rw c.ops.ensures.ops at c.evaluate_ops.ensures.value)

pub returns-clause-order : goal.returns-clause-order
returns-clause-order c = value_order c.args.installed.now c.args.depex.now.phase c.args.depex.now.ops c.evaluate_ops.result
    (rw c.ops.ensures.ops at c.evaluate_ops.ensures.value)

pub returns-clause-tree : goal.returns-clause-tree
returns-clause-tree c = λ t u p q. one_tree c.args.depex.now.phase c.args.depex.now.ops t u p q

pub returns-clause-memory : goal.returns-clause-memory
returns-clause-memory c = IfErr-weaker c.evaluate_ops.result _ _
    (λ f some. pushing_tree c.args.depex.now.phase c.args.depex.now.ops some c.ops.ensures.read.1.is_expression)
    (rw c.ops.ensures.ops at c.evaluate_ops.ensures.memory)
