use Rattle.std.proofs.lemmas.Grind.{common_steps}
use Rattle.std.proofs.Common.{◌∙◌, refl, sym, ap, arith, rules}
use Rattle.fv_base.proofs.Laws.{err_is}
use Rattle.fv_hob.specs.declared.fault.HobFault.{HobFault}
use Rattle.fv_hob.proofs.HobReadLemmas.{kept, ended, first_here, no_want, one_more, table_stands}
use Rattle.fv_hob.proofs.read.read_blocks.Goals as goal

pub loop-hobs-preserved : goal.loop-hobs-preserved
loop-hobs-preserved c =
    kept c.args.bytes.now c.loop-hobs.hobs.items c.push.new.self.items c.in_ok-hob.hob c.in_ok-block.block.now c.loop-hobs.at
    c.is_empty.result (search rules) c.loop-hobs.invariant c.in_ok-block.ensures.found c.in_ok-hob.ensures
    (λ e. c.if-ends.false (c.code-ends.ensures ∙ e)) c.in_ok-push.ensures.items

pub loop-hobs-smaller : goal.loop-hobs-smaller
loop-hobs-smaller c =
    let more = one_more c.args.bytes.now c.loop-hobs.hobs.items c.in_ok-hob.hob c.in_ok-block.block.now c.loop-hobs.at
    c.is_empty.result (search rules) c.loop-hobs.invariant c.in_ok-block.ensures.found c.in_ok-hob.ensures in
    omega (arith, more.inside, more.some)

pub returns-then-ends-clause-found : goal.returns-then-ends-clause-found
returns-then-ends-clause-found c =
    ended c.args.bytes.now c.loop-hobs.hobs.items c.push.new.self.items c.in_ok-hob.hob c.in_ok-block.block.now c.loop-hobs.at
    c.is_empty.result (search rules) c.loop-hobs.invariant c.in_ok-block.ensures.found c.in_ok-hob.ensures
    (sym c.code-ends.ensures ∙ c.if-ends.true) c.in_ok-push.ensures.items

pub returns-in_err-block-clause-first : goal.returns-in_err-block-clause-first
returns-in_err-block-clause-first c =
    rw (err_is c.from_residual.ensures.1)
    (λ e. first_here c.args.bytes.now c.loop-hobs.hobs.items c.loop-hobs.at c.is_empty.result _ (search rules)
    c.loop-hobs.invariant c.in_err-block.ensures.place c.in_err-block.ensures.first)

pub returns-in_err-block-clause-memory : goal.returns-in_err-block-clause-memory
returns-in_err-block-clause-memory c =
    rw (err_is c.from_residual.ensures.1)
    (λ e. absurd (no_want c.is_empty.result _ _ c.in_err-block.ensures.first (ap (λ (f : HobFault). f.kind) e)))

pub returns-in_err-hob-clause-memory : goal.returns-in_err-hob-clause-memory
returns-in_err-hob-clause-memory c = grind (arith, common_steps, err_is, table_stands)

pub returns-in_err-push-clause-memory : goal.returns-in_err-push-clause-memory
returns-in_err-push-clause-memory c =
    rw (err_is c.from_residual-in_err-push.ensures.1)
    (λ e. table_stands c.args.bytes.now c.loop-hobs.hobs.items c.in_ok-block.block.now c.loop-hobs.at
    c.is_empty.result (search rules) c.loop-hobs.invariant c.in_ok-block.ensures.found)

pub returns-in_err-hob-clause-first : goal.returns-in_err-hob-clause-first
returns-in_err-hob-clause-first c = rw (err_is c.from_residual-in_err-hob.ensures.1) (λ other. absurd (other refl))

pub returns-in_err-push-clause-first : goal.returns-in_err-push-clause-first
returns-in_err-push-clause-first c = rw (err_is c.from_residual-in_err-push.ensures.1) (λ other. absurd (other refl))
