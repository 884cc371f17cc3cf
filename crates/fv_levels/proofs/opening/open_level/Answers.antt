use Rattle.std.proofs.Common.{◌≡◌, ◌<◌, ◌≤◌, [], drop, length, arith}
use Rattle.fv_base.proofs.Laws.{drop_all}
use Rattle.fv_levels.proofs.RunLemmas.{continues_more, goes_more, goes_none, goes_on, some_source, still}
use Rattle.fv_levels.proofs.opening.open_level.Goals as goal

pub loop-number-preserved : goal.loop-number-preserved
loop-number-preserved c =
    let within : c.loop-number.number < length c.args.levels.now.sources = omega (arith, c.loop-number-test.true, c.count-number-end.ensures) in
    let some = some_source c.args.levels.now.sources c.loop-number.number within in
    let (front, rest) = c.loop-number.invariant in
    let here = c.in_ok-next.ensures.over some.0 (still _ _ c.loop-number.number some.0 front some.1) in (
      continues_more _ _ _ front (goes_on _ _ _ _ _ here),
      λ end t more. rest end t (rw some.2 (goes_more _ _ _ _ _ _ _ _ here more)),
    )

pub returns-clause-over : goal.returns-clause-over
returns-clause-over c =
    let past : length c.args.levels.now.sources ≤ c.loop-number.number = omega (arith, c.loop-number-test.false, c.count-number-end.ensures) in
    let none : drop c.loop-number.number c.args.levels.now.sources ≡ [] = drop_all _ _ past in
    c.loop-number.invariant.1 c.loop-number.levels c.loop-number.next (rw none (goes_none _ _))
