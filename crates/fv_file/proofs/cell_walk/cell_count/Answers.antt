use Rattle.std.proofs.Common.{rules}
use Rattle.fv_base.proofs.Laws.{◌∙◌, ap, arith, length, length-drop, refl, sym, eq-eqb, common_steps, not_equal}
use Rattle.fv_file.proofs.StrideLemmas.{all_counted, one_counted}
use Rattle.fv_file.proofs.cell_walk.cell_count.Goals as goal
use Rattle.fv_file.proofs.cell_walk.cell_count.Goals.{then-loop-rest-test+else-rest-erased, else-loop-rest-test}

pub loop-rest-preserved : goal.loop-rest-preserved
loop-rest-preserved c = (
  one_counted c.args.polarity c.loop-rest.count c.stride_at.result c.args.body.now _ _ c.loop-rest.invariant.0 (omega (arith, c.loop-rest-test.true))
      (λ e. c.if-rest-erased.true (e ∙ sym c.erased.ensures.value)) c.stride_at.ensures.cell c.bytes_from-rest.ensures,
  omega (arith, ap length c.bytes_from-rest.ensures, length-drop c.stride_at.result c.loop-rest.rest.now),
)

pub returns-clause-cells : goal.returns-clause-cells
returns-clause-cells c =
    all_counted c.args.polarity c.loop-rest.count _ c.args.body.now c.loop-rest.rest.now c.loop-rest.invariant.0 (λ long. elim c.loop-rest-test.branch [
      | then-loop-rest-test+else-rest-erased w ↦ w.if-rest-erased.false ∙ w.erased.ensures.value
      | else-loop-rest-test w ↦ absurd
          (omega (arith, long, w.loop-rest-test.false))
    ]) (λ none. rw (c.from.ensures, c.is_empty.ensures, eq-eqb (length c.loop-rest.rest.now) 0 none)
    (omega arith)) (λ some. rw (c.from.ensures, c.is_empty.ensures, not_equal (length c.loop-rest.rest.now) 0 (λ z. omega (arith, some, z))) refl)

pub returns-clause-most : goal.returns-clause-most
returns-clause-most c = search rules fits 100 steps 300000

pub loop-rest-smaller : goal.loop-rest-smaller
loop-rest-smaller c = grind (arith, common_steps)
