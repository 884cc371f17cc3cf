use Rattle.std.proofs.Common.{◌-◌, ◌∙◌, arith, length-set}
use Rattle.fv_placement.proofs.ReachLaws.{none_back, reach_back, kept_set}
use Rattle.fv_placement.proofs.first_placement.find_reaches.Goals as goal

pub returns-in-None-clause-none : goal.returns-in-None-clause-none
returns-in-None-clause-none c is e can =
    let inv = c.loop-left.invariant in
    none_back c.args.total c.args.items.now c.loop-left.left _ c.loop-left.reach (omega arith) inv.bound c.requires.total.1 inv.here
    c.in-None.ensures.none e can

pub loop-left-preserved : goal.loop-left-preserved
loop-left-preserved c =
    let inv = c.loop-left.invariant in
    record {
      bound = omega (arith, inv.bound);
      len = length-set c.loop-left.reaches (c.loop-left.left - 1) c.loop-left.reach ∙ inv.len;
      here = reach_back c.args.total c.args.items.now c.loop-left.left _ c.loop-left.reach c.in-Some.found (omega arith) inv.bound
          c.requires.total.1 inv.here c.in-Some.ensures.found;
      each = kept_set c.args.total c.args.items.now c.loop-left.reaches c.loop-left.left c.loop-left.reach (omega arith) inv.bound inv.len
          inv.here inv.each;
    }
