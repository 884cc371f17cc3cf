use Rattle.fv_levels.proofs.LevelLaws.{count_all, each_tried}
use Rattle.fv_levels.proofs.further_laws.no_section_is_missing.Goals as goal

pub returns-clause-tried : goal.returns-clause-tried
returns-clause-tried c = each_tried

pub returns-clause-count : goal.returns-clause-count
returns-clause-count c = count_all
