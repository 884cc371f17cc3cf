use Rattle.std.proofs.Common.{arith}
use Rattle.std.proofs.lemmas.Grind.{common_steps}
use Rattle.fv_section.proofs.texts.freeform.Goals as goal

pub returns-clause-found : goal.returns-clause-found
returns-clause-found c = grind (arith, common_steps)

pub returns-then-body-lt-SUBTYPE_DATA_OFFSET-clause-none : goal.returns-then-body-lt-SUBTYPE_DATA_OFFSET-clause-none
returns-then-body-lt-SUBTYPE_DATA_OFFSET-clause-none c = grind (arith, common_steps)
