use Rattle.std.proofs.Common.{arith}
use Rattle.fv_rows.specs.Words.{part_node}
use Rattle.fv_rows.proofs.RowWalkLaws.{inside_rows, nest_in}
use Rattle.fv_rows.proofs.tree_walk.TreeWalk.inside.Goals as goal

pub over-requires-clause-nest : goal.over-requires-clause-nest
over-requires-clause-nest c = rw c.parts_in.ensures.nodes (nest_in 0 0 (part_node c.args.part.now) (omega arith) c.known.ensures)

pub returns : goal.returns
returns c = rw (inside_rows 0 0 (part_node c.args.part.now), ← c.parts_in.ensures.nodes) c.over.ensures
