use Rattle.std.proofs.Common.{ℕ, ◌-◌, List, length, take, ◌∙◌, ap, subst, arith}
use Rattle.std.proofs.lemmas.List.{take-replicate}
use Rattle.fv_base.proofs.SinkLemmas.{run_joined}
use Rattle.fv_base.proofs.sink.fill_by.Goals as goal

pub loop-left-preserved : goal.loop-left-preserved
loop-left-preserved g c =
    let inv = c.loop-left.invariant in
    let n = length c.args.chunk.now in
    let step = subst (λ (xs : List ℕ). g.S.Sink.takes c.loop-left.out xs c.put.new.self) c.requires.same c.put.ensures in
    record {
      bound = omega arith;
      done = run_joined g.S.Sink.laws _ _ _ c.args.byte (c.args.count - c.loop-left.left) n (c.args.count - (c.loop-left.left - n))
          inv.done step (omega arith);
    }

pub returns : goal.returns
returns g c =
    let inv = c.loop-left.invariant in
    let n = length c.args.chunk.now in
    let last = c.cut.ensures ∙ (ap (λ (xs : List ℕ). take c.loop-left.left xs) c.requires.same
    ∙ take-replicate c.loop-left.left n c.args.byte c.loop-left-test.false) in
    let step = subst (λ (xs : List ℕ). g.S.Sink.takes c.loop-left.out xs c.put-2.new.self) last c.put-2.ensures in
    run_joined g.S.Sink.laws _ _ _ c.args.byte (c.args.count - c.loop-left.left) c.loop-left.left c.args.count inv.done step (omega arith)
