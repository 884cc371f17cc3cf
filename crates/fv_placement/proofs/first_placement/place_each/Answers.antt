use Rattle.std.proofs.Common.{◌≡◌, ◌<◌, [], ◌∷◌, ◌++◌, length, false, arith}
use Rattle.std.proofs.lemmas.Grind.{common_steps}
use Rattle.fv_placement.specs.declared.reach.Reach.{Reach}
use Rattle.fv_placement.proofs.MultipleLaws.{edge_eighth, edge_within}
use Rattle.fv_placement.proofs.ReachLaws.{bound_at, reach_at, some_here, stands}
use Rattle.fv_placement.proofs.PlacementLaws.{placed_at, placed_end}
use Rattle.fv_placement.proofs.first_placement.place_each.Goals as goal

-- the default reach, which `get_or` returns for a place past the end of the list
abbrev past : Reach
past = record { greatest = 0; near = false; far = false }

pub returns-in-None-clause-none : goal.returns-in-None-clause-none
returns-in-None-clause-none c long exact starts p =
    let known : c.loop-i.i < length c.args.reaches.now = omega (arith, c.loop-i-test.true) in
    some_here c.args.total c.loop-i.edge c.args.items.now c.loop-i.i _ _ c.loop-i-test.true c.requires.total.1
    (reach_at c.args.total c.args.items.now c.args.reaches.now c.loop-i.i _ past exact known (c.reach_after.ensures.known past known))
    (c.loop-i.invariant.can long exact (record { room = p.room; starts = starts; follow = p.follow })) c.in-None.ensures.none

pub first_start-requires-clause-after : goal.first_start-requires-clause-after
first_start-requires-clause-after c =
    (bound_at c.args.total c.args.items.now c.args.reaches.now c.loop-i.i _ past c.requires.reaches (c.reach_after.ensures.known past)
    c.reach_after.ensures.unknown).greatest

pub up_to_8-edge-requires : goal.up_to_8-edge-requires
up_to_8-edge-requires c =
    let bound = bound_at c.args.total c.args.items.now c.args.reaches.now c.loop-i.i _ past c.requires.reaches
    (c.reach_after.ensures.known past) c.reach_after.ensures.unknown in
    let inside = stands c.args.total c.loop-i.edge _ _ c.in-Some.start bound.greatest c.in-Some.ensures.found.lawful
    c.in-Some.ensures.found.usable in
    omega (arith, inside.within)

pub loop-i-preserved : goal.loop-i-preserved
loop-i-preserved c =
    let bound = bound_at c.args.total c.args.items.now c.args.reaches.now c.loop-i.i _ past c.requires.reaches
    (c.reach_after.ensures.known past) c.reach_after.ensures.unknown in
    let chosen = c.in-Some.ensures.found in
    let inside = stands c.args.total c.loop-i.edge _ _ c.in-Some.start bound.greatest chosen.lawful chosen.usable in
    let pushed : c.push.new.self.items ≡ c.loop-i.starts.items ++ c.in-Some.start ∷ [] = grind (arith, common_steps) in
    record {
      eighth = rw c.up_to_8-edge.ensures (edge_eighth _);
      within = rw c.up_to_8-edge.ensures (edge_within _ c.args.total c.requires.total.1 inside.within);
      placed = rw (c.up_to_8-edge.ensures, pushed) (placed_at c.args.total c.args.first c.args.items.now c.loop-i.edge c.loop-i.i _ _
          c.loop-i.starts.items c.in-Some.start c.loop-i-test.true c.requires.total.1 bound c.loop-i.invariant.placed chosen);
      can = rw c.up_to_8-edge.ensures (λ long exact p.
          let known : c.loop-i.i < length c.args.reaches.now = omega (arith, c.loop-i-test.true, long) in
          (reach_at c.args.total c.args.items.now c.args.reaches.now c.loop-i.i _ past exact known
          (c.reach_after.ensures.known past known)).sound _ (edge_eighth _) chosen.usable.edge);
    }

pub returns-clause-found : goal.returns-clause-found
returns-clause-found c = grind (arith, common_steps, placed_end)

pub overflow_add-start : goal.overflow_add-start
overflow_add-start c = grind (arith, common_steps)
