use Rattle.std.proofs.lemmas.Grind.{common_steps}
use Rattle.std.proofs.Common.{arith}
use Rattle.fv_names.proofs.NeighbourLaws.{file_within}
use Rattle.fv_names.proofs.name_index.NameIndex.has_twin.Goals as goal

pub are_twins-requires-clause-one : goal.are_twins-requires-clause-one
are_twins-requires-clause-one g c = file_within g.F.Named.named c.args.files.now _ c.requires.index c.index.result.now _ (omega arith) c.index.ensures

pub are_twins-requires-clause-other : goal.are_twins-requires-clause-other
are_twins-requires-clause-other g c = file_within g.F.Named.named _ _ c.requires.index _ c.args.place (omega arith) c.index-entry.ensures

pub are_twins-requires-else-are_twins-clause-one : goal.are_twins-requires-else-are_twins-clause-one
are_twins-requires-else-are_twins-clause-one g c = file_within g.F.Named.named _ _ c.requires.index _ _ (omega arith) c.index-else-are_twins.ensures

pub are_twins-requires-else-are_twins-clause-other : goal.are_twins-requires-else-are_twins-clause-other
are_twins-requires-else-are_twins-clause-other g c = file_within g.F.Named.named _ _ c.requires.index _ _ (omega arith) c.index-entry.ensures

pub returns-else-are_twins-clause-all : goal.returns-else-are_twins-clause-all
returns-else-are_twins-clause-all c = grind (arith, common_steps)

pub returns-else-are_twins-clause-yes : goal.returns-else-are_twins-clause-yes
returns-else-are_twins-clause-yes c = grind (arith, common_steps)
