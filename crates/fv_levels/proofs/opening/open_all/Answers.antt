use Rattle.std.proofs.Common.{◌≡◌, ◌-◌, ◌+◌, suc, arith}
use Rattle.fv_levels.specs.Words.{attempts_of}
use Rattle.fv_levels.proofs.LevelLaws.{are_levels}
use Rattle.fv_levels.proofs.RunLemmas.{level_end, level_step, start_of}
use Rattle.fv_levels.proofs.opening.open_all.Goals as goal

pub loop-level-init : goal.loop-level-init
loop-level-init c = (omega arith, rw c.first-progress.ensures (start_of _ _ _ c.of-levels.ensures.sources c.of-levels.ensures.closed))

pub loop-level-preserved : goal.loop-level-preserved
loop-level-preserved c =
    let is : 9 - c.loop-level.level ≡ suc (9 - (c.loop-level.level + 1)) = omega (arith, c.loop-level-test.true) in
    level_step _ _ _ _ _ _ _ _ c.loop-level.invariant.0 c.count-next.ensures c.in_ok-progress.ensures.over (rw is at c.loop-level.invariant.1)

pub returns-clause-levels : goal.returns-clause-levels
returns-clause-levels c =
    let end : 9 - c.loop-level.level ≡ 0 = omega (arith, c.loop-level-test.false) in
    level_end _ _ _ _ _ (rw end at c.loop-level.invariant.1)

pub returns-clause-attempts : goal.returns-clause-attempts
returns-clause-attempts c =
    let end : 9 - c.loop-level.level ≡ 0 = omega (arith, c.loop-level-test.false) in
    (attempts_of c.args.image.now c.args.budget, rw (level_end _ _ _ _ _ (rw end at c.loop-level.invariant.1)) (are_levels c.args.image.now c.args.budget))
