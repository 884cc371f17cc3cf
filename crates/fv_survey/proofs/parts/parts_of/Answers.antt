use Rattle.std.proofs.Common.{length, sym, subst, arith}
use Rattle.fv_base.proofs.Laws.{common_steps}
use Rattle.fv_survey.specs.inner.Bounds.{PartsLie}
use Rattle.fv_survey.proofs.VolumeLaws.{parts_lie}
use Rattle.fv_survey.proofs.parts.parts_of.Goals as goal

pub returns-clause-is : goal.returns-clause-is
returns-clause-is c = grind (arith, common_steps)

pub returns-clause-lies : goal.returns-clause-lies
returns-clause-lies c = subst (PartsLie (length c.args.bytes.now)) (sym (returns-clause-is c)) (parts_lie c.args.bytes.now c.requires)
