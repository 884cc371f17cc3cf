use Rattle.fv_rows.proofs.RowWalkLaws.{stream_nests, stream_rows}
use Rattle.fv_rows.proofs.tree_walk.TreeWalk.of_stream.Goals as goal

pub over-requires-clause-nest : goal.over-requires-clause-nest
over-requires-clause-nest c = rw c.sections-sections.ensures (stream_nests c.args.stream.now.0 c.args.stream.now.1 c.known.ensures.0 c.known.ensures.1)

pub returns : goal.returns
returns c = rw (stream_rows c.args.stream.now.0, ← c.sections-sections.ensures) c.over.ensures
