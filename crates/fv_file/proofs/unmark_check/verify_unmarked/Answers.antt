use Rattle.std.proofs.Common.{◌≤◌, ◌<◌, ◌+◌}
use Rattle.fv_base.proofs.Laws.{◌∙◌, arith, length, sym, common_steps, err_is}
use Rattle.fv_file.proofs.BodyLemmas.{rest_free, rest_used}
use Rattle.fv_file.proofs.MarkWalkLemmas.{UnmarkedUpto, walk_begins, walk_ends, walk_on, walk_stops}
use Rattle.fv_file.proofs.unmark_check.verify_unmarked.Goals.{In_ok-span}
use Rattle.fv_file.proofs.unmark_check.verify_unmarked.Goals as goal

-- after this cell, the marks up to the next place are removed
further : (c : In_ok-span)
    → UnmarkedUpto c.args.system c.args.polarity c.args.first c.args.body.now (c.loop-system.at + c.in_ok-span.span)
    × (0 < c.in_ok-span.span) × (c.loop-system.at + c.in_ok-span.span ≤ length c.args.body.now)
further c =
    let used = rest_used _ _ c.args.body.now c.loop-system.at c.bytes_from.ensures (sym c.is_free.ensures ∙ c.loop-system-test.true) in
    let found = rw c.bytes_from-rest.ensures at c.in_ok-span.ensures.found in
    walk_on c.args.system c.args.polarity c.args.first c.args.body.now c.loop-system.at c.loop-system.invariant used found.0 found.1
    c.in_ok-span.span found.2.0 c.requires.multiple found.2.1 found.2.2 found.3

pub loop-system-init : goal.loop-system-init
loop-system-init c = walk_begins c.args.system c.args.polarity c.args.first c.args.body.now

pub returns-in_err-span-clause-first : goal.returns-in_err-span-clause-first
returns-in_err-span-clause-first c =
    let used = rest_used _ _ c.args.body.now c.loop-system.at c.bytes_from.ensures (sym c.is_free.ensures ∙ c.loop-system-test.true) in
    let rejected = rw c.bytes_from-rest.ensures at c.in_err-span.ensures.rejected in
    let stops = walk_stops c.args.system c.args.polarity c.args.first c.args.body.now c.loop-system.at c.loop-system.invariant used rejected.0 rejected.1
    _ rejected.2 in
    rw (err_is c.from_residual.ensures.1) (stops.0, stops.1, stops.2, stops.3, rejected.3)

pub overflow_add-at : goal.overflow_add-at
overflow_add-at c = omega (arith, (further c).2, c.requires.place)

pub loop-system-smaller : goal.loop-system-smaller
loop-system-smaller c = let k = further c in omega (arith, k.1, k.2)

pub loop-system-preserved : goal.loop-system-preserved
loop-system-preserved c = (further c).0

pub returns-clause-tiled : goal.returns-clause-tiled
returns-clause-tiled c =
    walk_ends c.args.system c.args.polarity c.args.first c.args.body.now c.loop-system.at c.loop-system.invariant
    (rest_free _ _ c.args.body.now c.loop-system.at c.bytes_from.ensures (sym c.is_free.ensures ∙ c.loop-system-test.false))

pub span_unmarked-requires : goal.span_unmarked-requires
span_unmarked-requires c = grind (arith, common_steps)
