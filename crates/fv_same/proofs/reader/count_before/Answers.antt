use Rattle.std.proofs.Common.{◌≡◌, ◌+◌, drop, sym, ◌∙◌, arith}
use Rattle.fv_levels.specs.Words.{source_form}
use Rattle.fv_same.specs.Words.{count_before}
use Rattle.fv_same.proofs.WalkLemmas.{count_goes_on, count_stops}
use Rattle.fv_same.proofs.reader.count_before.Goals as goal

pub returns-then-not-comes_before : goal.returns-then-not-comes_before
returns-then-not-comes_before c =
    let stops : count_before c.args.number (drop c.loop-before.before c.args.levels.now.sources) ≡ 0 =
    count_stops c.args.number c.args.levels.now.sources c.loop-before.before (source_form c.in-Some.source) (sym c.in-Some.ensures.source)
    (sym c.comes_before.ensures ∙ c.if-not-comes_before.true) in
    omega (arith, c.loop-before.invariant, stops)

pub loop-before-preserved : goal.loop-before-preserved
loop-before-preserved c =
    let more : count_before c.args.number (drop c.loop-before.before c.args.levels.now.sources)
    ≡ count_before c.args.number (drop (c.loop-before.before + 1) c.args.levels.now.sources) + 1 =
    count_goes_on c.args.number c.args.levels.now.sources c.loop-before.before (source_form c.in-Some.source) (sym c.in-Some.ensures.source)
    (sym c.comes_before.ensures ∙ c.if-not-comes_before.false) in
    omega (arith, c.loop-before.invariant, more)
