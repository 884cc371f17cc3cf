use Rattle.std.proofs.Common.{ap, ◌∙◌, refl}
use Rattle.fv_budget.specs.Words.{full_budget, nesting_limit}
use Rattle.fv_opened.specs.Words.{PackedText}
use Rattle.fv_opened.proofs.PlainListLemmas.{opened_lines, same_lines}
use Rattle.fv_opened.proofs.further_laws.nothing_packed.Goals as goal

pub returns-clause-only : goal.returns-clause-only
returns-clause-only c m ran_out text nothing (t, rows, is) =
    let same = same_lines (PackedText nesting_limit) full_budget t _ text nothing rows in
    (same.0, is ∙ ap (λ s. s.ran_out) same.1)

pub returns-clause-all : goal.returns-clause-all
returns-clause-all c m text nothing lines =
    (full_budget, opened_lines (PackedText nesting_limit) full_budget _ text nothing lines, refl)
