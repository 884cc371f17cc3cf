use Rattle.std.proofs.lemmas.Grind.{common_steps}
use Rattle.std.proofs.Common.{List, [], ◌∷◌, ◌++◌, refl, sym, ◌∙◌, arith}
use Rattle.fv_depex.specs.declared.op.Op.{Op}
use Rattle.fv_depex.proofs.OpReadLemmas.{kept_none, kept, ended, first_fault_at, one_more}
use Rattle.fv_depex.proofs.read.depex_fault.Goals as goal

pub loop-op-init : goal.loop-op-init
loop-op-init c = ([], kept_none c.args.phase c.args.bytes.now [] refl)

pub loop-op-preserved : goal.loop-op-preserved
loop-op-preserved c =
    let ops : List Op = c.loop-op.invariant.0 in
    let more : List Op = ops ++ c.in-Ok.op ∷ [] in (
      more,
      kept c.args.phase c.args.bytes.now ops more c.in-Ok.op c.loop-op.at c.op_len-at.result c.loop-op.stage
          c.stage_after-stage.result c.loop-op.invariant.1 c.in-Ok.ensures.found c.op_len-at.ensures
          (λ e. c.if-code-eq-END.false (c.code.ensures ∙ e)) refl c.stage_after-stage.ensures,
    )

pub loop-op-smaller : goal.loop-op-smaller
loop-op-smaller c = grind (arith, common_steps, one_more)

pub returns-then-code-eq-END-clause-none : goal.returns-then-code-eq-END-clause-none
returns-then-code-eq-END-clause-none c = λ none.
    let ops : List Op = c.loop-op.invariant.0 in
    let more : List Op = ops ++ c.in-Ok.op ∷ [] in
    let spelled = ended c.args.phase c.args.bytes.now ops more c.in-Ok.op c.loop-op.at c.op_len-at.result
    c.loop-op.stage c.loop-op.invariant.1 c.in-Ok.ensures.found c.op_len-at.ensures (sym c.code.ensures ∙ c.if-code-eq-END.true)
    refl in
    (more, _, spelled.1)

pub returns-in-Err-clause-first : goal.returns-in-Err-clause-first
returns-in-Err-clause-first c = grind (arith, common_steps, first_fault_at)
