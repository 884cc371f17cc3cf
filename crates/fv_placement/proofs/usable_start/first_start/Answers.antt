use Rattle.std.proofs.Common.{inr, refl, arith, rules}
use Rattle.fv_placement.proofs.ReachLaws.{usable_most}
use Rattle.fv_placement.proofs.UsableStartLaws.{never_true, start_at, after_missed, multiple_next, from_pad, data_back}
use Rattle.fv_placement.proofs.usable_start.first_start.Goals as goal

pub returns-then-is_usable_start-3-clause-found : goal.returns-then-is_usable_start-3-clause-found
returns-then-is_usable_start-3-clause-found c =
    let inv = c.loop-start.invariant in
    let both = start_at c.args.item.now c.widened-step.result c.loop-start.start c.widened-step.ensures c.requires.item.header inv.multiple in
    record {
      lawful = record { eighth = both.0; gap = inr inv.pad; aligned = both.1 };
      usable = c.if-is_usable_start-3.ensures.0 refl;
      least = inv.least;
    }

pub loop-start-preserved : goal.loop-start-preserved
loop-start-preserved c =
    let inv = c.loop-start.invariant in
    record {
      pad = omega (arith, inv.pad);
      multiple = multiple_next c.loop-start.start c.args.item.now.header c.widened-step.result inv.multiple;
      least = λ t l v. after_missed c.args.total c.args.item.now c.args.after c.widened-step.result c.loop-start.start t
          c.widened-step.ensures c.requires.item.header inv.multiple (λ u. never_true (c.if-is_usable_start-3.ensures.1 u)) v (inv.least t l v);
      small = omega (arith, c.widened-step.ensures.small);
    }

pub loop-start-init : goal.loop-start-init
loop-start-init c =
    let f = c.args.item.now in
    let up = c.round_up in
    record {
      pad = omega (arith, up.ensures.above);
      multiple = data_back up.result f.header c.widened-step.result (omega (arith, up.ensures.above)) up.ensures.multiple;
      least = λ t l v. from_pad c.args.total c.args.edge f c.args.after c.widened-step.result up.result t c.widened-step.ensures
          c.requires.item.header up.ensures.least (λ u. never_true (c.if-is_usable_start.ensures.1 u)) l v;
      small = omega (arith, up.ensures.near, c.widened-step.ensures.small);
    }

pub returns-clause-none : goal.returns-clause-none
returns-clause-none c s l v =
    omega (arith, c.loop-start.invariant.least s l v, usable_most c.args.after _ v.edge)

pub returns-then-is_usable_start-clause-found : goal.returns-then-is_usable_start-clause-found
returns-then-is_usable_start-clause-found c = search rules fits 100 steps 300000
