use Rattle.fv_base.proofs.Laws.{arith, IfOk-weaker, IfErr-weaker, all_are-true, common_steps}
use Rattle.fv_file.proofs.CellVerdictLemmas.{verdict_stands, verdict_first}
use Rattle.fv_file.proofs.CellWalkLemmas.{stands_walked, free_walked}
use Rattle.fv_file.proofs.ErasedByteLemmas.{not_erased}
use Rattle.fv_file.proofs.cell_walk.first_cell.Goals as goal

pub returns-then-is_free-clause-found : goal.returns-then-is_free-clause-found
returns-then-is_free-clause-found c = grind (arith, common_steps, free_walked, all_are-true)

pub returns-clause-found : goal.returns-clause-found
returns-clause-found c = grind (arith, common_steps, IfOk-weaker, stands_walked, verdict_stands)

pub returns-clause-first : goal.returns-clause-first
returns-clause-first c = grind (arith, common_steps, IfErr-weaker, not_erased, verdict_first)
