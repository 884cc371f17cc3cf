use Rattle.std.proofs.Common.{inl, inr, refl}
use Rattle.std.specs.Fmt.{digits}
use Rattle.fv_opened.proofs.WorkedListLemmas.{three_faulty}
use Rattle.fv_opened.proofs.worked_lists.other_sections.Goals as goal

pub returns-clause-no_sections : goal.returns-clause-no_sections
unfolding digits
returns-clause-no_sections c = inl (_, inr (_, inr three_faulty, refl, refl), refl)

pub returns-clause-unknown : goal.returns-clause-unknown
unfolding digits
returns-clause-unknown c = inl (refl, refl)

pub returns-clause-long : goal.returns-clause-long
unfolding digits
returns-clause-long c = inl (refl, refl)

pub returns-clause-spent : goal.returns-clause-spent
returns-clause-spent c = (refl, refl)

pub returns-clause-deep : goal.returns-clause-deep
returns-clause-deep c = (refl, refl)

pub returns-clause-memory : goal.returns-clause-memory
returns-clause-memory c = inr (refl, (refl, refl))
