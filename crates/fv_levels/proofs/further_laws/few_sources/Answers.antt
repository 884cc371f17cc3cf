use Rattle.fv_levels.proofs.LevelLaws.{few_sources}
use Rattle.fv_levels.proofs.further_laws.few_sources.Goals as goal

pub returns : goal.returns
returns c = few_sources
