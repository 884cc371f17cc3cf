use Rattle.fv_tree.proofs.Laws.{few_steps}
use Rattle.fv_compare.proofs.compare.put_comparison.Goals as goal

pub put_line-requires : goal.put_line-requires
put_line-requires g c =
    record { few = rw (c.as_ref.ensures.value, c.in_ok-found.ensures.first) (few_steps c.args.first.now c.args.second.now c.known.ensures) }
