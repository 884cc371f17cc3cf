use Rattle.std.proofs.Common.{◌++◌}
use Rattle.fv_base.proofs.Laws.{arith, common_steps}
use Rattle.fv_head.specs.Words.{entry_bytes}
use Rattle.fv_head.proofs.ExtImageLemmas.{entries_len_step, entries_step, entries_end}
use Rattle.fv_head.proofs.ext_image.put_entries.Goals as goal

pub put_entry-requires : goal.put_entry-requires
put_entry-requires g c = omega (arith, entries_len_step _ _ _ c.loop-entry-test.true c.entry-item.is, c.loop-entry.invariant.3)

pub loop-entry-preserved : goal.loop-entry-preserved
loop-entry-preserved g c =
    let inv = c.loop-entry.invariant in
    let e = c.entry-item.result in (
      inv.0 ++ entry_bytes c.args.used e,
      g.S.Sink.laws.joined inv.1 c.put_entry.ensures,
      entries_step c.args.used inv.0 _ _ e c.loop-entry-test.true c.entry-item.is inv.2,
      omega (arith, entries_len_step _ _ e c.loop-entry-test.true c.entry-item.is, inv.3),
    )

pub returns : goal.returns
returns g c = grind (arith, common_steps, entries_end)
