use Rattle.std.proofs.lemmas.Grind.{common_steps}
use Rattle.fv_base.proofs.Laws.{◌∙◌, refl, sym, ap, arith, err_is}
use Rattle.fv_depex.specs.declared.fault.DepexFault.{DepexFault}
use Rattle.fv_depex.proofs.OpReadLemmas.{kept_none, kept, ended, first_fault_at, no_want, one_more, stands_first}
use Rattle.fv_depex.proofs.read.read_ops.Goals as goal

pub loop-ops-init : goal.loop-ops-init
loop-ops-init c = kept_none c.args.phase c.args.bytes.now c.new-ops.result.items c.new-ops.ensures.items

pub loop-ops-preserved : goal.loop-ops-preserved
loop-ops-preserved c =
    kept c.args.phase c.args.bytes.now c.loop-ops.ops.items c.push.new.self.items c.in_ok-op.op c.loop-ops.at c.op_len-at.result
    c.loop-ops.stage c.stage_after-stage.result c.loop-ops.invariant c.in_ok-op.ensures.found c.op_len-at.ensures
    (λ e. c.if-code-eq-END.false (c.code.ensures ∙ e)) c.in_ok-push.ensures.items c.stage_after-stage.ensures

pub loop-ops-smaller : goal.loop-ops-smaller
loop-ops-smaller c = grind (arith, common_steps, one_more)

pub returns-then-code-eq-END-clause-found : goal.returns-then-code-eq-END-clause-found
returns-then-code-eq-END-clause-found c =
    ended c.args.phase c.args.bytes.now c.loop-ops.ops.items c.push.new.self.items c.in_ok-op.op c.loop-ops.at c.op_len-at.result
    c.loop-ops.stage c.loop-ops.invariant c.in_ok-op.ensures.found c.op_len-at.ensures (sym c.code.ensures ∙ c.if-code-eq-END.true)
    c.in_ok-push.ensures.items

pub returns-in_err-op-clause-memory : goal.returns-in_err-op-clause-memory
returns-in_err-op-clause-memory c =
    rw (err_is c.from_residual.ensures.1)
    (λ e. absurd (no_want c.args.phase c.loop-ops.stage _ _ c.in_err-op.ensures.first (ap (λ (f : DepexFault). f.kind) e)))

pub returns-in_err-push-clause-memory : goal.returns-in_err-push-clause-memory
returns-in_err-push-clause-memory c = grind (arith, common_steps, err_is, stands_first)

pub returns-in_err-op-clause-first : goal.returns-in_err-op-clause-first
returns-in_err-op-clause-first c = grind (arith, common_steps, err_is, first_fault_at)

pub returns-in_err-push-clause-first : goal.returns-in_err-push-clause-first
returns-in_err-push-clause-first c = rw (err_is c.from_residual-in_err-push.ensures.1) (λ other. absurd (other refl))
