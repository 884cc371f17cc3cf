use Rattle.std.proofs.Common.{◌<◌, ℕ, List, length, sym, ap, ◌∙◌, subst, arith}
use Rattle.fv_base.proofs.Laws.{nat_tests}
use Rattle.fv_variables.specs.Words.{IsRead}
use Rattle.fv_variables.proofs.RowLaws.{after_taken, lent}
use Rattle.fv_variables.proofs.walk.RowWalk.next_row.Goals as goal

pub overflow_add-self : goal.overflow_add-self
overflow_add-self c =
    let some : 0 < length c.self.inside.rest.now = grind (arith, nat_tests) in
    let after = after_taken c.self.inside.reading c.self.inside.rest.now c.step_at-step.result some c.self.invariant.0 c.step_at-step.ensures in
    omega (arith, after.fewer, c.self.invariant.1)

pub bytes_from-self-inside-requires : goal.bytes_from-self-inside-requires
bytes_from-self-inside-requires c =
    let some : 0 < length c.self.inside.rest.now = grind (arith, nat_tests) in
    let after = after_taken c.self.inside.reading c.self.inside.rest.now c.step_at-step.result some c.self.invariant.0 c.step_at-step.ensures in
    omega (arith, after.fewer)

pub invariant_of-self : goal.invariant_of-self
invariant_of-self c =
    let some : 0 < length c.self.inside.rest.now = grind (arith, nat_tests) in
    let after = after_taken c.self.inside.reading c.self.inside.rest.now c.step_at-step.result some c.self.invariant.0 c.step_at-step.ensures in
    let long = ap (λ (l : List ℕ). length l) c.bytes_from-self-inside.ensures in
    (subst (λ (n : ℕ). IsRead c.step_at-step.result.next n) (sym long) after.read, omega (arith, after.fewer, long, c.self.invariant.1))

pub returns-clause-some : goal.returns-clause-some
returns-clause-some c =
    let some : 0 < length c.self.inside.rest.now = grind (arith, nat_tests) in
    sym c.self.view_is ∙ lent c.self.inside.reading c.self.inside.at c.self.inside.rest.now c.bytes_from-self-inside.result.now
    c.step_at-step.result some c.self.invariant.0 c.step_at-step.ensures c.bytes_from-self-inside.ensures
