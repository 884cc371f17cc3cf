use Rattle.fv_base.proofs.Laws.{arith, common_steps}
use Rattle.fv_head.proofs.ExtLemmas.{more_entries, end_entries}
use Rattle.fv_head.proofs.ext.entries_of.Goals as goal

pub loop-len-preserved : goal.loop-len-preserved
loop-len-preserved c = grind (arith, common_steps, more_entries)

pub returns-clause-ok : goal.returns-clause-ok
returns-clause-ok c =
    end_entries c.loop-len.entries.items c.args.bytes.now c.loop-len.rest.now c.loop-len.invariant c.in_default.ensures.none
