use Rattle.fv_levels.proofs.LevelLaws.{are_levels, only_one}
use Rattle.fv_levels.proofs.further_laws.one_result.Goals as goal

pub returns-clause-some : goal.returns-clause-some
returns-clause-some c = are_levels

pub returns-clause-only : goal.returns-clause-only
returns-clause-only c = only_one
