use Rattle.std.proofs.Common.{refl, sym, ◌∙◌}
use Rattle.fv_same.proofs.further_laws.same_is_an_equivalence.Goals as goal

pub returns-clause-itself : goal.returns-clause-itself
returns-clause-itself c = λ s a. refl

pub returns-clause-turned : goal.returns-clause-turned
returns-clause-turned c = λ s a b e. sym e

pub returns-clause-third : goal.returns-clause-third
returns-clause-third c = λ s a b d e f. e ∙ f
