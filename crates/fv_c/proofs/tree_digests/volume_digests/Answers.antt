use Rattle.fv_rows.proofs.Laws.{rows_followed, tree_volumes}
use Rattle.fv_tree.specs.Words.{volumes_in}
use Rattle.fv_canon.proofs.Laws.{begin_all}
use Rattle.fv_c.proofs.tree_digests.volume_digests.Goals as goal

pub walk_digests-requires : goal.walk_digests-requires
walk_digests-requires c =
    let m = c.args.volume.now in
    rw c.of.ensures (rows_followed m, rw (tree_volumes m) (begin_all (volumes_in m) c.args.starts.now c.requires))

pub returns : goal.returns
returns c = rw c.of.ensures at c.walk_digests.ensures
