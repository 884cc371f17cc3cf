use Rattle.fv_depex.proofs.DecidedExpressionLemmas.{expression_decided}
use Rattle.fv_depex.proofs.OpReadLemmas.{none_after}
use Rattle.fv_depex.proofs.further_laws.every_expression.Goals as goal

pub returns-clause-either : goal.returns-clause-either
returns-clause-either c = expression_decided

pub returns-clause-never : goal.returns-clause-never
returns-clause-never c phase b rest ops f spells first = none_after phase b f ops rest first spells
