use Rattle.std.proofs.Common.{arith, length-append, take_all}
use Rattle.fv_base.proofs.Laws.{take_more}
use Rattle.fv_text.proofs.Laws.{texts_next}
use Rattle.fv_tree.specs.declared.difference.Step.TheVariants as steps
use Rattle.fv_compare.specs.Words.{step_text}
use Rattle.fv_compare.proofs.ComparisonLineLaws.{path_flat}
use Rattle.fv_compare.proofs.comparison_line.put_path.Goals as goal

pub loop-step-preserved : goal.loop-step-preserved
loop-step-preserved g c =
    let more = take_more c.args.steps.now c.loop-step.step-index (steps.File 0) c.loop-step-test.true in
    let next = texts_next step_text c.args.steps.now c.loop-step.step-index (steps.File 0) c.loop-step-test.true in
    record {
      text = rw next (g.S.Sink.laws.joined c.loop-step.invariant.text c.put_step.ensures.text);
      short = rw (next, more, length-append, length-append) (omega arith);
    }

pub returns-clause-text : goal.returns-clause-text
returns-clause-text g c =
    rw path_flat (rw (take_all c.loop-step.step-index c.args.steps.now c.loop-step-test.false) at c.loop-step.invariant.text)

pub returns-clause-short : goal.returns-clause-short
returns-clause-short g c =
    rw path_flat (rw (take_all c.loop-step.step-index c.args.steps.now c.loop-step-test.false) at c.loop-step.invariant.short)
