use Rattle.std.proofs.Common.{◌≡◌, ◌+◌, ◌-◌, drop, length, min, arith}
use Rattle.fv_same.specs.Words.{differing}
use Rattle.fv_same.proofs.OutsideLemmas.{differs_end}
use Rattle.fv_same.proofs.outside.differing.Goals as goal

pub returns : goal.returns
returns c =
    let at : c.loop-at.at ≡ min (length c.args.one.now) (length c.args.other.now) =
    omega (arith, c.min-shared.ensures, c.loop-at-test.false, c.loop-at.auto.at-end) in
    let end : differing (drop c.loop-at.at c.args.one.now) (drop c.loop-at.at c.args.other.now)
    ≡ (length c.args.one.now - c.loop-at.at) + (length c.args.other.now - c.loop-at.at) =
    differs_end c.args.one.now c.args.other.now c.loop-at.at at in
    omega (arith, c.loop-at.invariant.1, end, at, c.min-shared.ensures)
