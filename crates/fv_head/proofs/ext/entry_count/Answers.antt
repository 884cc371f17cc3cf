use Rattle.fv_base.proofs.Laws.{ap, arith, length, length-drop}
use Rattle.fv_head.proofs.ExtLemmas.{entry_counted, entries_counted}
use Rattle.fv_head.proofs.ext.entry_count.Goals as goal

pub loop-len-preserved : goal.loop-len-preserved
loop-len-preserved c = (
  entry_counted c.loop-len.count c.in-Some.len c.args.bytes.now c.loop-len.rest.now c.bytes_from-rest.result.now c.bytes_from-rest.ensures
      c.in-Some.ensures.some.0 c.in-Some.ensures.some.1 c.in-Some.ensures.some.2 c.loop-len.invariant.0,
  omega (arith, c.loop-len.invariant.1, c.in-Some.ensures.some, ap length c.bytes_from-rest.ensures, length-drop c.in-Some.len c.loop-len.rest.now),
)

pub returns-clause-count : goal.returns-clause-count
returns-clause-count c =
    entries_counted c.loop-len.count c.args.bytes.now c.loop-len.rest.now c.loop-len.invariant.0 c.in_default.ensures.none
