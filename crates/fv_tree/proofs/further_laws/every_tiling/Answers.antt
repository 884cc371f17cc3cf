use Rattle.fv_tree.proofs.VolumeCellLaws.{tiling_decided}
use Rattle.fv_tree.proofs.further_laws.every_tiling.Goals as goal

pub returns-clause-either : goal.returns-clause-either
returns-clause-either c = tiling_decided

pub returns-clause-never : goal.returns-clause-never
returns-clause-never c b e cells f tiled not = not.none e cells tiled
