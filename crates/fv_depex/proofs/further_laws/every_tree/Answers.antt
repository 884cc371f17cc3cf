use Rattle.fv_depex.proofs.DecidedExpressionLemmas.{no_tree}
use Rattle.fv_depex.proofs.further_laws.every_tree.Goals as goal

pub returns-clause-either : goal.returns-clause-either
returns-clause-either c phase b rest ops spells = spells.is_expression

pub returns-clause-never : goal.returns-clause-never
returns-clause-never c = no_tree
