use Rattle.std.proofs.Common.{◌++◌}
use Rattle.fv_base.proofs.Laws.{arith, get_or, common_steps, le_bytes}
use Rattle.fv_head.proofs.HeadWalkLemmas.{pairs_step, pairs_end}
use Rattle.fv_head.proofs.head_image.put_pairs.Goals as goal

pub loop-count-preserved : goal.loop-count-preserved
loop-count-preserved g c =
    let i = c.loop-count.count-index in
    let p = get_or c.args.pairs.now i (0, 0) in
    let inv = c.loop-count.invariant in (
      inv.0 ++ (le_bytes 4 p.0 ++ le_bytes 4 p.1),
      g.S.Sink.laws.joined inv.1
          (g.S.Sink.laws.joined c.put_u32.ensures c.put_u32-in-loop-count.ensures),
      pairs_step inv.0 c.args.pairs.now i c.loop-count-test.true inv.2,
    )

pub returns : goal.returns
returns g c = grind (arith, common_steps, pairs_end)
