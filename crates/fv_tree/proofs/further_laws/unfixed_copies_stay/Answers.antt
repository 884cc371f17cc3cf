use Rattle.fv_tree.proofs.FixedMarkLaws.{unchanged}
use Rattle.fv_tree.proofs.further_laws.unfixed_copies_stay.Goals as goal

pub returns : goal.returns
returns c b o (e, body, u, (cells, tiled)) = unchanged o e cells tiled
