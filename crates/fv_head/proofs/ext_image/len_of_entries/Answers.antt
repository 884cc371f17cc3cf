use Rattle.std.proofs.Common.{◌≡◌, ◌+◌, ap, arith, drop, length}
use Rattle.fv_head.specs.Words.{entries_len}
use Rattle.fv_head.proofs.ExtImageLemmas.{entries_len_step}
use Rattle.fv_head.proofs.ext_image.len_of_entries.Goals.{After-payload}
use Rattle.fv_head.proofs.ext_image.len_of_entries.Goals as goal

-- the length so far, the length of this entry and the length of the entries after it add up to the length of all
-- entries
one_more : (c : After-payload) → c.loop-entry.len + (4 + length c.payload.result.now)
    + entries_len (drop (c.loop-entry.entry-index + 1) c.args.entries.now) ≡ entries_len c.args.entries.now
one_more c =
    omega (arith, entries_len_step _ _ _ c.loop-entry-test.true c.entry-item.is, ap length c.payload.ensures, c.loop-entry.invariant)

pub overflow_cast-len : goal.overflow_cast-len
overflow_cast-len c = omega (arith, one_more (goal.at.overflow_cast-len c).After-payload)

pub overflow_add-len : goal.overflow_add-len
overflow_add-len c = omega (arith, one_more (goal.at.overflow_add-len c).After-payload)

pub overflow_add-len-in-loop-entry : goal.overflow_add-len-in-loop-entry
overflow_add-len-in-loop-entry c = omega (arith, one_more (goal.at.overflow_add-len-in-loop-entry c).After-payload)

pub loop-entry-preserved : goal.loop-entry-preserved
loop-entry-preserved c = omega (arith, one_more (goal.at.loop-entry-preserved c).After-payload)
