use Rattle.std.proofs.Common.{arith}
use Rattle.std.proofs.lemmas.Grind.{common_steps}
use Rattle.fv_canon.proofs.layout_walk.own_starts.Goals as goal

pub is_top_misaligned-requires-clause-items : goal.is_top_misaligned-requires-clause-items
is_top_misaligned-requires-clause-items c = rw (c.as_slice.ensures.value, c.length-total.ensures, c.head-head.ensures.head) c.in_ok-items.ensures.ok.1

pub first_starts-requires-clause-items : goal.first_starts-requires-clause-items
first_starts-requires-clause-items c = rw (c.as_slice-2.ensures.value, c.length-total.ensures, c.head-head.ensures.head) c.in_ok-items.ensures.ok.1

pub returns-in_err-first_starts-clause-memory : goal.returns-in_err-first_starts-clause-memory
returns-in_err-first_starts-clause-memory c = grind (arith, common_steps)
