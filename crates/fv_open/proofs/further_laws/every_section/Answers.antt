use Rattle.fv_open.specs.Words.{opened}
use Rattle.fv_open.proofs.StandardLemmas.{either_result, not_both}
use Rattle.fv_open.proofs.further_laws.every_section.Goals as goal

pub returns-clause-either : goal.returns-clause-either
returns-clause-either c limit b = either_result (opened limit b)

pub returns-clause-never : goal.returns-clause-never
returns-clause-never c limit b o f is other = not_both (opened limit b) o f is other
