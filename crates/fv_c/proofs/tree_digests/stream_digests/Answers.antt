use Rattle.fv_rows.proofs.Laws.{stream_followed, stream_volumes}
use Rattle.fv_tree.specs.Words.{sections_from, volumes_in_sections}
use Rattle.fv_canon.proofs.Laws.{begin_all}
use Rattle.fv_c.proofs.tree_digests.stream_digests.Goals as goal

pub walk_digests-requires : goal.walk_digests-requires
walk_digests-requires c =
    let ss = c.args.stream.now.0 in
    rw c.of_stream.ensures
    (stream_followed ss, rw (stream_volumes (sections_from ss)) (begin_all (volumes_in_sections (sections_from ss)) c.args.starts.now c.requires))

pub returns : goal.returns
returns c = rw c.of_stream.ensures at c.walk_digests.ensures
