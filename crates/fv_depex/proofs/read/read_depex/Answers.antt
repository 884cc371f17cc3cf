use Rattle.std.proofs.lemmas.Grind.{common_steps}
use Rattle.std.proofs.Common.{arith}
use Rattle.fv_base.proofs.Laws.{err_is}
use Rattle.fv_depex.proofs.OpReadLemmas.{none_after, spells_first}
use Rattle.fv_depex.proofs.PathLemmas.{one_spelling}
use Rattle.fv_depex.proofs.read.read_depex.Goals as goal

pub returns-clause-found : goal.returns-clause-found
returns-clause-found c = grind (arith, common_steps)

pub returns-clause-only : goal.returns-clause-only
returns-clause-only c = λ ops rest spells.
    one_spelling c.args.phase c.from_parts.result.ops ops c.from_parts.result.rest rest c.args.bytes.now (returns-clause-found c).1 spells

pub returns-in_err-ops-clause-none : goal.returns-in_err-ops-clause-none
returns-in_err-ops-clause-none c =
    rw (err_is c.from_residual.ensures.1)
    (λ memory ops rest spells. none_after c.args.phase c.args.bytes.now _ ops rest (c.in_err-ops.ensures.first memory) spells)

pub returns-in_err-rest-clause-memory : goal.returns-in_err-rest-clause-memory
returns-in_err-rest-clause-memory c =
    rw (err_is c.from_residual-in_err-rest.ensures.1)
    (λ e. spells_first c.args.phase c.args.bytes.now c.in_ok-ops.ops.items _ c.in_ok-ops.ensures.found.1)
