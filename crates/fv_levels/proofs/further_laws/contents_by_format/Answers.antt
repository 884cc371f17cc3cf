use Rattle.fv_levels.proofs.LevelLaws.{opened_by}
use Rattle.fv_levels.proofs.further_laws.contents_by_format.Goals as goal

pub returns : goal.returns
returns c = opened_by
